-- A worked trace: a post is written in one region, and a note of it to a queue. The note starts a process in another region, whose barrier
-- looks for both, each at its store. Then its read of the post is settled.
use Rattle.std.proofs.Common.{◌≡◌, ℕ, true, false, List, [], ◌∷◌, Some, refl, sym, ap, ◌∙◌, subst, inl, inr, arith}
use Rattle.std.specs.Prelude.{None, codes, take}
use Rattle.std.proofs.lemmas.Bool.{or_cases}
use Rattle.anti_ids.specs.Ids.{has_id, is_id}
use Rattle.anti_ids.specs.declared.id.WriteId.{WriteId}
use Rattle.anti_ids.proofs.IdLemmas.{same_id}
use Rattle.anti_kind.specs.declared.actor.Actor.TheVariants.{Carrier}
use Rattle.anti_kind.specs.declared.call.Call.{Call}
use Rattle.anti_kind.specs.declared.call.Call.TheVariants as calls
use Rattle.anti_kind.specs.declared.call.Reply.{Reply}
use Rattle.anti_kind.specs.declared.call.Reply.TheVariants as replies
use Rattle.anti_kind.specs.declared.entry.Entry.{Entry}
use Rattle.anti_lang.specs.Bodies.{block_from}
use Rattle.anti_lang.specs.Program as statements
use Rattle.anti_lang.specs.Program.{Block}
use Rattle.anti_lang.specs.declared.statement.KeyWord.TheVariants as keys
use Rattle.anti_lang.specs.declared.statement.ValueWord.TheVariants.{Input}
use Rattle.anti_lang.proofs.PlainLemmas.{block_again}
use Rattle.anti_app.specs.declared.app.App.{App}
use Rattle.law_causal.specs.Causal.{Before, Earlier, program, row, through}
use Rattle.law_causal.specs.Carried.{IsLossless, carried_at}
use Rattle.law_causal.specs.Settled.{IsSettled, Looked, is_visible_after, left_at}
use Rattle.law_causal.proofs.Ids.{id_for}
use Rattle.law_causal.proofs.WorkedLoss.{LosesNone, each_that, hands, keeps_with, none_lost}
use Rattle.law_causal.proofs.WorkedForms.{app_with, born_at, carried_with, clear, handler_with, left_with, made, request_for, row_of, service_in, shows, store_in, taken_at, write_to}

-- ---- the application

abbrev pub post_body : Block
post_body =
    block_from (statements.Write (codes "posts") (keys.Plain (codes "p1")) Input None false
    ∷ write_to (codes "notes") (codes "n") (codes "p1") ∷ [])

abbrev pub note_body : Block
note_body = block_from (statements.Barrier ∷ statements.Read (codes "posts") keys.Input (codes "x") ∷ [])

-- The stores `posts` and `notes` are the objects 0 and 1, and the inboxes of `poster` and `reader` the objects 2 and 3.
abbrev pub app : App
app =
    app_with (codes "us" ∷ codes "eu" ∷ []) (store_in 1 (codes "kv") (codes "posts") ∷ store_in 1 (codes "queue") (codes "notes") ∷ [])
    (service_in 0 (codes "poster") (handler_with (codes "post") post_body ∷ [])
    ∷ service_in 1 (codes "reader") (handler_with (codes "note") note_body ∷ []) ∷ [])
    (record { name = codes "fans"; store = 1; channel = codes "n"; service = 1; handler = 0 } ∷ [])
    (request_for 0 0 (codes "hello") ∷ [])

-- ---- the trace

abbrev pub post_id : WriteId
post_id = id_for 0 (codes "p1") 1

abbrev pub note_id : WriteId
note_id = id_for 1 (codes "n#1") 1

abbrev pub post : Entry
post = made 2 0 1 (born_at 2 1) 1 (calls.Write (codes "p1") (codes "hello") []) (replies.Written (codes "p1") 1 None)

abbrev pub note : Entry
note = made 3 1 1 (born_at 2 1) 1 (calls.Write (codes "n") (codes "p1") (post_id ∷ [])) (replies.Written (codes "n#1") 1 None)

-- the process of the note
abbrev pub did : ℕ → ℕ → ℕ → Call → Reply → Entry
did stamp object place call reply = made stamp object place (born_at 1 3) 1 call reply

abbrev pub pull : Entry
pull = did 5 1 3 (calls.Pull 0) (replies.Pulled (row_of (codes "n#1") 1 (codes "p1") (post_id ∷ [])))

abbrev pub look_posts : Entry
look_posts = did 6 0 3 (calls.Look 1 (post_id ∷ []) false) clear

abbrev pub look_notes : Entry
look_notes = did 7 1 4 (calls.Look 1 (note_id ∷ []) false) clear

abbrev pub read : Entry
read = did 8 0 4 (calls.Read 1 (codes "p1")) (shows (row_of (codes "p1") 1 (codes "hello") []))

abbrev pub ship : ℕ → ℕ → Entry
ship stamp object = made stamp object 2 (Carrier 0) 0 (calls.Ship 1 1 1) replies.Moved

abbrev pub trace : List Entry
trace =
    taken_at 1 2 1 (codes "post") (codes "hello") ∷ post ∷ note ∷ ship 4 1 ∷ ship 5 0
    ∷ pull ∷ look_posts ∷ look_notes ∷ read ∷ did 9 1 5 (calls.Ack 1) replies.Done ∷ []

-- ---- what is carried, and what the barrier looked for

into_read : carried_at app trace 8 read ≡ post_id ∷ note_id ∷ []
into_read = ap (carried_with app trace 8 read) (block_again note_body)

first_leaves_the_other : left_at app trace 6 look_posts ≡ Some (record { store = 1; ids = note_id ∷ [] } ∷ [])
first_leaves_the_other = ap (left_with app trace 6 look_posts) (block_again note_body)

last_leaves_none : left_at app trace 7 look_notes ≡ Some []
last_leaves_none = ap (left_with app trace 7 look_notes) (block_again note_body)

post_is_visible : is_visible_after app (take 7 trace) 1 post_id ≡ true
post_is_visible = refl

note_is_visible : is_visible_after app (take 7 trace) 1 note_id ≡ true
note_is_visible = refl

-- ---- the read is settled

looked_post : Looked trace 8 read post_id
looked_post =
    let earlier : Earlier 6 look_posts 8 read = record { before = omega arith; process = refl; actor = refl; span = refl } in
    record { place = 6; entry = look_posts; there = refl; earlier = earlier; found = refl }

looked_note : Looked trace 8 read note_id
looked_note =
    let earlier : Earlier 7 look_notes 8 read = record { before = omega arith; process = refl; actor = refl; span = refl } in
    record { place = 7; entry = look_notes; there = refl; earlier = earlier; found = refl }

pub settled : IsSettled app trace 8 read
settled w has here =
    elim (or_cases (is_id w post_id) (has_id w (note_id ∷ [])) (sym (ap (has_id w) into_read) ∙ has)) [
      | inl is ↦ subst (Looked trace 8 read) (sym (same_id w post_id is)) looked_post
      | inr other ↦ elim (or_cases (is_id w note_id) false other) [
        | inl is ↦ subst (Looked trace 8 read) (sym (same_id w note_id is)) looked_note
        | inr none ↦ absurd (cc)
      ]
    ]

-- ---- the causal order

-- the read shows the post
post_before_read : Before trace 1 8
post_before_read = row post read post_id refl refl refl refl

-- the note is pulled, and its process goes on to the read
note_before_pull : Before trace 2 5
note_before_pull = row note pull note_id refl refl refl refl

pull_before_read : Before trace 5 8
pull_before_read = program pull read refl refl (record { before = omega arith; process = refl; actor = refl; span = refl })

note_before_read : Before trace 2 8
note_before_read = through note_before_pull pull_before_read

-- ---- no lineage loses a write

-- Each write, look and read carries all that came to its span before.
pub lossless : IsLossless app trace
lossless =
    let kept_at_post = ap (keeps_with app trace 1 post) (block_again post_body) in
    let kept_at_note = ap (keeps_with app trace 2 note) (block_again post_body) in
    let kept_at_first_look = ap (keeps_with app trace 6 look_posts) (block_again note_body) in
    let kept_at_last_look = ap (keeps_with app trace 7 look_notes) (block_again note_body) in
    let kept_at_read = ap (keeps_with app trace 8 read) (block_again note_body) in
    each_that hands (LosesNone app trace) trace (
      none_lost app trace 1 post kept_at_post,
      (
        none_lost app trace 2 note kept_at_note,
        (
          none_lost app trace 6 look_posts kept_at_first_look,
          (none_lost app trace 7 look_notes kept_at_last_look, (none_lost app trace 8 read kept_at_read, tt)),
        ),
      ),
    )
