-- the position, and the store's own forms that change it
pub mod Position
-- what is answered to requests, one after the other
pub mod MessageAnswers
-- a round of them in memory
pub mod Rounds
-- what the calls answer
pub mod MessageCalls
-- which requests are answered together
pub mod Fronts
-- why they are refused
pub mod Refusals
-- what they are as a turn
pub mod Turn
