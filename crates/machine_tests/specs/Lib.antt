-- a machine on which the program runs, and what is there at each moment of it
pub mod Machine
