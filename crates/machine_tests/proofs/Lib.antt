-- a machine whose disks are honest, and the program on it
pub mod Machines
-- what a store finds that is opened on what a crash left
pub mod Found
-- sessions in a row
pub mod InARow
