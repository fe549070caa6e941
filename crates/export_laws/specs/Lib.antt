-- the forms of a world as objects
pub mod Objects
-- as texts
pub mod ExportedTexts
