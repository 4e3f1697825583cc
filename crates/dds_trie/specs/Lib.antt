pub mod Trie
pub mod Nodes
