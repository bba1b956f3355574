-- What a host hears of its line.
use Rattle.std.specs.Prelude.{cond, List, ◌++◌, ℕ, ltb, length, drop, Ok, Err, Result}
use Rattle.reply.specs.Slips.{owed}
use Rattle.reply.specs.Texts.{text}
use Rattle.reply.specs.declared.answer.Answer.{Answer}
use Rattle.clerk.specs.declared.refusal.Refusal.{Refusal}
use Rattle.clerk.specs.declared.refusal.Refusal.TheVariants.{Line, NoRoom}

-- n is the size of the answer memory; of an accepted line it hears how many bytes the answer has, of which silence has none
abbrev pub told : {F : Type 0} → ℕ → Result Answer F → Result ℕ (Refusal F)
told n (Err f) = Err (Line f)
told n (Ok a) = cond (ltb n 64) (Err NoRoom) (Ok (length (text a)))

-- what the answer memory has then: the answer at its front, if there is room and one is owed
abbrev pub written : {F : Type 0} → Result Answer F → List ℕ → List ℕ
written o out = cond (ltb (length out) 64) out (owed o ++ drop (length (owed o)) out)
