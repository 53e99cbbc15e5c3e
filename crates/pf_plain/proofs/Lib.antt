pub mod PlainTenants
pub mod PlainLemmas
