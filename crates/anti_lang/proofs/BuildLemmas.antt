-- What is built of lines, from the last line up.
use Rattle.std.proofs.Common.{◌≡◌, ◌∙◌, sym, ap, List, [], ◌∷◌, ◌++◌, append_assoc}
use Rattle.anti_ids.specs.List.{Listed}
use Rattle.anti_lang.specs.Program.{Block}
use Rattle.anti_lang.specs.Blocks.{with_line, up}
use Rattle.anti_lang.specs.Lines.{Line}
use Rattle.anti_lang.specs.Parses.{line_of}
use Rattle.anti_lang.specs.Stated.{stated, all_stated, ArePlain}
use Rattle.anti_lang.specs.Turned.{Hold}
use Rattle.anti_lang.specs.declared.line.Line as code
use Rattle.anti_lang.specs.declared.statement.Statement.{Statement}
use Rattle.anti_lang.proofs.PlainLemmas.{plain_here}

-- bodies are those of the last lines, in front of which these stand
pub record BuiltFrom (bodies : Listed (Listed Statement)) (left all done : List code.Line) : Type 0 where
  pub parted : left ++ done ≡ all
  pub hold : Hold bodies (up (all_stated done))

-- one line more is taken in
pub built_next : (bodies more : Listed (Listed Statement)) (left fewer all : List code.Line) (line : code.Line) →
    ArePlain all → ((done : List code.Line) × BuiltFrom bodies left all done) → left ≡ fewer ++ line ∷ [] →
    ((blocks : List Block) (said : Line) → Hold bodies blocks → line ≡ line_of said → Hold more (with_line said blocks)) →
    (done : List code.Line) × BuiltFrom more fewer all done
built_next bodies more left fewer all line made built taken step =
    let done : List code.Line = built.0 in
    let parted : fewer ++ line ∷ done ≡ all = sym (append_assoc fewer (line ∷ []) done) ∙ ap (λ ls. ls ++ done) (sym taken) ∙ built.1.parted in
    let here : line ≡ line_of (stated line) = plain_here fewer line done (rw (sym parted) at made) in
    (line ∷ done, record { parted = parted; hold = step (up (all_stated done)) (stated line) built.1.hold here })

-- no line is left
pub built_all : (bodies : Listed (Listed Statement)) (left all : List code.Line) → ((done : List code.Line) × BuiltFrom bodies left all done) → left ≡ [] → Hold bodies (up (all_stated all))
built_all bodies left all built none =
    let whole : built.0 ≡ all = ap (λ ls. ls ++ built.0) (sym none) ∙ built.1.parted in
    rw whole at built.1.hold
