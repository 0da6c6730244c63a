pub mod FileTexts
pub mod Once
pub mod Judgements
pub mod Opened
pub mod RenewedOnce
