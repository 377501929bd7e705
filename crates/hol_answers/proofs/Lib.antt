pub mod FirstNames
mod OrdinalsLine
mod Rising
mod Sent
