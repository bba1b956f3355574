-- Number, place and layer of what is wrong with a line.
use Rattle.std.specs.Prelude.{ℕ, cond, nat_le, List, ◌++◌, codes}
use Rattle.std.specs.Fmt.{decimal}
use Rattle.words.specs.declared.word.ByteFault.TheVariants.{TooLong, Blank, OpensNone}
use Rattle.orders.specs.declared.fault.WordFault.{WordFault}
use Rattle.orders.specs.declared.fault.WordFault.TheVariants.{Byte, Missing, Foreign, NoCode, OutOfRange}
use Rattle.orders.specs.declared.fault.Layer.{Layer}
use Rattle.orders.specs.declared.fault.Layer.TheVariants.{Bytes, Words, Orders}

abbrev pub number_of : WordFault → ℕ
number_of (Byte TooLong) = 1
number_of (Byte Blank) = 3
number_of (Byte (OpensNone p)) = 4
number_of (Missing p) = 5
number_of (Foreign p) = 6
number_of (NoCode p) = 7
number_of (OutOfRange p) = 8

-- 0 where the line as a whole is wrong
abbrev pub place_of : WordFault → ℕ
place_of (Byte TooLong) = 0
place_of (Byte Blank) = 0
place_of (Byte (OpensNone p)) = p
place_of (Missing p) = p
place_of (Foreign p) = p
place_of (NoCode p) = p
place_of (OutOfRange p) = p

-- 1 to 4 are of the bytes, 5 to 8 of the words, the others of the orders
abbrev pub layer_numbered : ℕ → Layer
layer_numbered n = cond (nat_le n 4) Bytes (cond (nat_le n 8) Words Orders)

abbrev pub layer_of : WordFault → Layer
layer_of e = layer_numbered (number_of e)

-- as it is told in words
abbrev pub told : WordFault → List ℕ
told e = codes "refused " ++ decimal (number_of e) ++ codes " at " ++ decimal (place_of e)
