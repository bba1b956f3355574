-- What is owed for a line.
use Rattle.std.specs.Prelude.{ℕ, List, [], Some, None, Ok, Err, Option, Result}
use Rattle.reply.specs.Texts.{text}
use Rattle.reply.specs.declared.answer.Answer.{Answer}

-- the bytes of the answer; none for a refused line, whatever it was refused for
abbrev pub owed : {F : Type 0} → Result Answer F → List ℕ
owed (Ok a) = text a
owed (Err f) = []

abbrev pub refused : {F : Type 0} → Result Answer F → Option F
refused (Ok a) = None
refused (Err f) = Some f
