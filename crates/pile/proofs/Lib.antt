pub mod Faces
pub mod Turns
pub mod Firsts
pub mod Piles
pub mod Claim
pub mod Taken
pub mod Rooms
