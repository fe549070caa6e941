-- what the theorem is said over
pub mod meaning
pub mod Theorem
-- what each call answers, and what is left after it
pub mod calls
-- what the functions below the calls do
pub mod steps
