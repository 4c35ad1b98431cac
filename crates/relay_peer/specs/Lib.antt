pub mod H1Client
pub mod RequestWriting
pub mod ResponseReading
pub mod Body
pub mod Faults
pub mod Peer
