pub mod BigEndian
pub mod Size
pub mod Record
pub mod Minor
pub mod Normal
pub mod Ranged
pub mod Encodable
