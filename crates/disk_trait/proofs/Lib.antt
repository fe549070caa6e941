mod Files
mod Left
mod Next
mod Scattered
