pub mod Answer
pub mod IdleLinks
pub mod TcpConnector
pub mod TcpLink
