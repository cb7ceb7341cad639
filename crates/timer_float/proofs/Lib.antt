-- Floats by the fractions that they equal (Values), that the engines agree (Agree), the document's pairs, computed (Worked), and that the promise determines its
-- result (Determined).
pub mod Values
pub mod Agree
pub mod Worked
pub mod Determined
