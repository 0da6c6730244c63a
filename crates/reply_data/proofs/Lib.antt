pub mod ShortNames
