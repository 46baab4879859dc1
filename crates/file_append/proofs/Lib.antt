pub mod Clusters
pub mod Bytes
pub mod Turns
pub mod Apart
pub mod Front
