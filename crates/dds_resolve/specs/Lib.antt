pub mod Letters
pub mod Team
pub mod Teams
pub mod Resolving
pub mod Conversations
pub mod Resolved
pub mod Law
