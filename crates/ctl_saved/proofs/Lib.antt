mod Zips
mod InOrder
