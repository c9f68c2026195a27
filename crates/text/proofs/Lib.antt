-- What the proofs of the calls need beside the laws of crate text_rules: the kit's digits, and what loops keep true.
mod Kit
mod HexLoops
mod HexNumbers
mod Values
mod Integers
mod Nth
mod NthLine
mod Ends
