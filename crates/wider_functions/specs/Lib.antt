-- when a program has the macro functions of another one
pub mod Among
-- the rules of earlier programs
pub mod EarlierRules
