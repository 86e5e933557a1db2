-- Drives in folders: Folders. How a file is synced and taken offline: Syncs.
pub mod Folders
pub mod Syncs
