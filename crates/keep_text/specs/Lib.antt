pub mod KeepLines
pub mod KeepTexts
pub mod KeepTaken
pub mod KeepLaws
pub mod KeepForms
pub mod NameSets
