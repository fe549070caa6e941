mod Between
mod FirstByte
mod Growing
mod Pending
mod Walks
mod WrittenBytes
