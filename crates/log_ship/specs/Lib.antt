pub mod Packets
pub mod PacketText
pub mod Followers
pub mod Taken
pub mod Honest
pub mod Helps
