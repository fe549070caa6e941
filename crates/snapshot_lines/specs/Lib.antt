pub mod PartAnswers
pub mod Lines
pub mod BuildRefusals
pub mod QuotedTexts
