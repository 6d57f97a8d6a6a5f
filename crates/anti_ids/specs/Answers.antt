-- What a call answers, where it may want memory that is not there.
use Rattle.std.specs.Prelude.{◌≡◌, Result, Ok, Err}

-- A call answers just what is stated, but for one fault, that of memory: it may come at any time.
abbrev pub AnswersBut : {X E : Type 0} → E → Result X E → Result X E → Type 0
AnswersBut memory (Ok value) stated = stated ≡ Ok value
AnswersBut memory (Err fault) stated = ¬ (fault ≡ memory) → stated ≡ Err fault
