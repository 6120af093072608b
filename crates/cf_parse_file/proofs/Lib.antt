mod Laws
mod Nested
