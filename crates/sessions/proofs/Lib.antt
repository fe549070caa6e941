pub mod StreamLemmas
pub mod NewHalves
mod Progressing
mod KeptMacros
mod Pendings
mod PlainForms
mod Places
mod Endings
mod Counting
mod Replies
mod FormAnswers
mod FoundForms
mod Pacing
mod Renewing
mod Pieces
mod EndedAt
mod Answering
mod Inputs
mod Gathering
mod Groups
mod Gathered
mod Handing
