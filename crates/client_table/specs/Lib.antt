-- the name of a client, and what its message is
pub mod Names
-- what the table says of a client, and the store's own forms that change it
pub mod Entries
-- an entry in memory
pub mod Told
-- what is answered to messages with a name, among others
pub mod Named
-- what the call answers
pub mod CallsByName
-- a message that was taken apart
pub mod Steps
-- what is asked, as a turn
pub mod Turn
-- two rounds beside each other
pub mod Laws
