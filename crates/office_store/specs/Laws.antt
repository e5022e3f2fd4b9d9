pub mod Laws
pub mod Files
