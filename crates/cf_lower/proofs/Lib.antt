mod Rows
mod ConstantRows
mod FileRows
mod FunctionRows
