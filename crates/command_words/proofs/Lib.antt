pub mod ConfLengths
