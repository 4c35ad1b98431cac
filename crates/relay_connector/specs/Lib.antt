pub mod Connector
pub mod ScriptConnector
pub mod ScriptEntries
pub mod Upstream
