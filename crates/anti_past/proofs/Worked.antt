-- Two worked traces of one service and a store `s`. Its process reads the key `k`, writes it, begins a new span, reads what it wrote, and
-- then writes the key `j`: where it does not transfer what it read this write loses the other, and where it does nothing is lost.
use Rattle.std.proofs.Common.{◌≡◌, ℕ, zero, suc, ◌<◌, ◌++◌, true, false, List, [], ◌∷◌, refl, ap, ◌∙◌, subst, inl, inr, arith}
use Rattle.std.proofs.lemmas.Bool.{cases_lt, eqb-false}
use Rattle.std.proofs.lemmas.Option.{slice_get_within}
use Rattle.std.specs.Prelude.{None, Some, Option, codes, map, slice_get, take}
use Rattle.std.specs.Option.{option_map_or}
use Rattle.anti_ids.specs.Ids.{has_id}
use Rattle.anti_ids.specs.List.{plain}
use Rattle.anti_ids.specs.declared.id.WriteId.{WriteId}
use Rattle.anti_kind.specs.declared.actor.Actor.{Actor}
use Rattle.anti_kind.specs.declared.actor.Actor.TheVariants.{Carrier, Process}
use Rattle.anti_kind.specs.declared.actor.Birth.{Birth}
use Rattle.anti_kind.specs.declared.call.Call.{Call}
use Rattle.anti_kind.specs.declared.call.Call.TheVariants as calls
use Rattle.anti_kind.specs.declared.call.Reply.{Reply}
use Rattle.anti_kind.specs.declared.call.Reply.TheVariants as replies
use Rattle.anti_kind.specs.declared.entry.Entry.{Entry}
use Rattle.anti_kind.specs.declared.message.MessageKind.TheVariants.{Request}
use Rattle.anti_kind.specs.declared.store_kind.StoreKind.TheVariants.{Kv}
use Rattle.anti_lang.specs.Bodies.{block_from, body_of}
use Rattle.anti_lang.specs.Program as statements
use Rattle.anti_lang.specs.Program.{Block, Step}
use Rattle.anti_lang.specs.declared.statement.KeyWord.TheVariants.{Plain}
use Rattle.anti_lang.specs.declared.statement.ValueWord.TheVariants.{Literal}
use Rattle.anti_lang.proofs.PlainLemmas.{block_again}
use Rattle.anti_app.specs.declared.app.App.{App}
use Rattle.anti_app.specs.declared.app.ServiceDef.{ServiceDef}
use Rattle.anti_proc.specs.declared.end.BodyEnd.TheVariants.{Fine}
use Rattle.anti_proc.specs.Meaning.{begun, reply_of, setting_of}
use Rattle.anti_proc.specs.Tasks.{task_of}
use Rattle.anti_proc.specs.Trees.{Ask, Ends, Tree, after, ask_of}
use Rattle.anti_trace.specs.Traces.{entries_by}
use Rattle.law_causal.specs.Words.{brings, hands_all}
use Rattle.law_causal.specs.Causal.{Earlier}
use Rattle.law_causal.specs.Carried.{Brought, carried_at}
use Rattle.law_causal.specs.Reads.{reads_of}
use Rattle.anti_past.specs.Told.{IsFirstLoss}
use Rattle.anti_past.specs.Losses.{Loses}
use Rattle.anti_past.specs.Spans.{IsBefore, has_read}
use Rattle.anti_past.specs.declared.span_reads.Span.{Span}

-- ---- the application: the store is object 0, and the inbox of the service is object 1

abbrev k : List ℕ
k = codes "k"

abbrev j : List ℕ
j = codes "j"

abbrev write_to : List ℕ → Step
write_to key = statements.Write (codes "s") (Plain key) (Literal (codes "a")) None false

abbrev read_k : Step
read_k = statements.Read (codes "s") (Plain k) (codes "x")

abbrev body_with : List Step → Block
body_with last = block_from (read_k ∷ write_to k ∷ statements.Root ∷ read_k ∷ last)

-- without a transfer of what it read, and with it
abbrev forgets : Block
forgets = body_with (write_to j ∷ [])

abbrev transfers : Block
transfers = body_with (statements.Transfer (codes "x") ∷ write_to j ∷ [])

abbrev service_with : Block → ServiceDef
service_with body = record { name = codes "v"; region = 0; handlers = plain (record { name = codes "h"; body = body_of body } ∷ []) }

abbrev app_of : Block → App
app_of body = record {
  regions = plain (codes "eu" ∷ []);
  stores = plain (record { name = codes "s"; kind = Kv; replicas = plain (0 ∷ []); tries = 3; room = 8 } ∷ []);
  services = plain (service_with body ∷ []);
  subs = plain [];
  requests = plain (record { service = 0; handler = 0; value = [] } ∷ []);
  choices = plain [];
  seed = 0;
  workers = 1;
}

-- ---- the entries

abbrev birth : Birth
birth = record { object = 1; place = 1 }

abbrev made : ℕ → ℕ → ℕ → Actor → ℕ → Call → Reply → Entry
made stamp object place actor span call reply =
    record { stamp = stamp; object = object; place = place; seat = 0; actor = actor; span = span; call = call; reply = reply }

-- of the process, in a span
abbrev did : ℕ → ℕ → ℕ → ℕ → Call → Reply → Entry
did stamp object place span call reply = made stamp object place (Process birth) span call reply

-- the store shows the key `k` in a version
abbrev shows : ℕ → List ℕ → Reply
shows version value = replies.Shown (plain (record { key = k; version = version; value = value; lineage = [] } ∷ []))

abbrev taken : Entry
taken = did 1 1 1 1 (calls.Take 1)
    (replies.Got 1 (record { kind = Request; to = 0; depth = 0; handler = codes "h"; value = []; baggage = plain (codes "1;") }))

abbrev reads_none : Entry
reads_none = did 2 0 1 1 (calls.Read 0 k) (shows 0 [])

abbrev writes_k : Entry
writes_k = did 3 0 2 1 (calls.Write k (codes "a") []) (replies.Written k 1 None)

abbrev shipped : Entry
shipped = made 4 0 3 (Carrier 0) 0 (calls.Ship 0 1 1) replies.Moved

abbrev reads_k : Entry
reads_k = did 5 0 4 2 (calls.Read 0 k) (shows 1 (codes "a"))

abbrev writes_j : List WriteId → Entry
writes_j lineage = did 6 0 5 2 (calls.Write j (codes "a") lineage) (replies.Written j 2 None)

abbrev front : List Entry
front = taken ∷ reads_none ∷ writes_k ∷ shipped ∷ reads_k ∷ []

-- the id of the first write
abbrev k_1 : WriteId
k_1 = record { store = 0; key = k; version = 1 }

-- the last entry: what was read is not in its lineage, or it is
abbrev forgot : Entry
forgot = writes_j []

abbrev kept : Entry
kept = writes_j (k_1 ∷ [])

abbrev lossy : List Entry
lossy = front ++ forgot ∷ []

abbrev whole : List Entry
whole = front ++ kept ∷ []

abbrev lossy_app : App
lossy_app = app_of forgets

abbrev whole_app : App
whole_app = app_of transfers

-- ---- what is carried

-- what the process does, its next call, and what it carries into this, where this is the body of its handler
abbrev tree_with : App → Block → Entry → Tree
tree_with app body first = option_map_or (λ task. begun body (setting_of app task) task.carried) (task_of app first) (Ends Fine)

abbrev next_with : App → Block → List Entry → Option Ask
next_with app body [] = None
next_with app body (first ∷ later) = ask_of (after (tree_with app body first) (map reply_of later))

abbrev carried_with : App → List Entry → ℕ → Block → List WriteId
carried_with app trace i body =
    option_map_or (λ ask. ask.carried) (next_with app body (entries_by (Process birth) (take i trace))) []

-- the new span carries nothing, and so it is where what was read is not transferred
into_read : carried_at whole_app whole 4 reads_k ≡ []
into_read = ap (carried_with whole_app whole 4) (block_again transfers)

into_lossy : carried_at lossy_app lossy 5 forgot ≡ []
into_lossy = ap (carried_with lossy_app lossy 5) (block_again forgets)

into_whole : carried_at whole_app whole 5 kept ≡ k_1 ∷ []
into_whole = ap (carried_with whole_app whole 5) (block_again transfers)

-- ---- what came to the spans before the last entry

abbrev EachAt : (ℕ → Entry → Type 0) → List Entry → Type 0
EachAt P [] = Unit {0}
EachAt P (e ∷ es) = P 0 e × EachAt (λ i. P (suc i)) es

each_at : (P : ℕ → Entry → Type 0) (es : List Entry) → EachAt P es → (i : ℕ) (e : Entry) → slice_get es i ≡ Some e → P i e
each_at P [] all i e at = absurd (cc)
each_at P (x ∷ xs) all zero e at = let same : x ≡ e = cc in subst (P 0) same all.0
each_at P (x ∷ xs) all (suc i) e at = each_at (λ n. P (suc n)) xs all.1 i e at

module _ (body : Block) (last : Entry) where
  abbrev app : App
  app = app_of body

  abbrev trace : List Entry
  trace = front ++ last ∷ []

  -- the message and the absent row bring nothing
  nothing_came : (i : ℕ) (e : Entry) (w : WriteId) → i < 3 → Brought app trace i e w → ⊥
  nothing_came i e w early b =
      let before = b.earlier.before in
      each_at (λ m x. m < 2 → has_id w (brings app x) ≡ true → ⊥) trace (
        λ low has. absurd (cc),
        (
          λ low has. absurd (cc),
          (
            λ low. absurd (omega arith),
            (λ low. absurd (omega arith), (λ low. absurd (omega arith), (λ low. absurd (omega arith), tt))),
          ),
        ),
      ) b.place b.entry b.there (omega arith) b.came

  -- the second read is the first entry of its span
  none_earlier : (w : WriteId) → Brought app trace 4 reads_k w → ⊥
  none_earlier w b =
      each_at (λ m x. m < 4 → x.span ≡ 2 → ⊥) trace (
        λ low. eqb-false 1 2 refl,
        (
          λ low. eqb-false 1 2 refl,
          (
            λ low. eqb-false 1 2 refl,
            (λ low. eqb-false 0 2 refl, (λ low. absurd (omega arith), (λ low. absurd (omega arith), tt))),
          ),
        ),
      ) b.place b.entry b.there b.earlier.before b.earlier.span

  -- So nothing came to an entry before the last one that is to carry all.
  none_brought : (i : ℕ) (e : Entry) → slice_get trace i ≡ Some e → i < 5 → hands_all e.call ≡ true → (w : WriteId)
      → Brought app trace i e w → ⊥
  none_brought = each_at (λ i e. i < 5 → hands_all e.call ≡ true → (w : WriteId) → Brought app trace i e w → ⊥) trace (
    λ low hands. absurd (cc),
    (
      λ low hands w. nothing_came 1 reads_none w (omega arith),
      (
        λ low hands w. nothing_came 2 writes_k w (omega arith),
        (λ low hands. absurd (cc), (λ low hands. none_earlier, (λ low. absurd (omega arith), tt))),
      ),
    ),
  )

-- ---- the first loses the write that was read, at its last entry and not before

j_loses : Loses lossy_app lossy 5 forgot
j_loses =
    let earlier : Earlier 4 reads_k 5 forgot = record { before = omega arith; process = refl; actor = refl; span = refl } in
    record {
      hands = refl;
      id = k_1;
      brought = record { place = 4; entry = reads_k; there = refl; earlier = earlier; came = refl };
      lost = ap (has_id k_1) into_lossy;
    }

first_loss : IsFirstLoss lossy_app lossy (Some (record { object = 0; place = 5 }))
first_loss = record {
  place = 5;
  entry = writes_j [];
  there = refl;
  marked = refl;
  loses = j_loses;
  first = λ i e low at loses. none_brought forgets forgot i e at low loses.hands loses.id loses.brought;
}

-- ---- the second loses nothing

held_at_last : (w : WriteId) → Brought whole_app whole 5 kept w → has_id w (k_1 ∷ []) ≡ true
held_at_last w b =
    each_at (λ m x. m < 5 → x.span ≡ 2 → has_id w (brings whole_app x) ≡ true → has_id w (k_1 ∷ []) ≡ true) whole (
      λ low span. absurd (eqb-false 1 2 refl span),
      (
        λ low span. absurd (eqb-false 1 2 refl span),
        (
          λ low span. absurd (eqb-false 1 2 refl span),
          (λ low span. absurd (eqb-false 0 2 refl span), (λ low span has. has, (λ low. absurd (omega arith), tt))),
        ),
      ),
    ) b.place b.entry b.there b.earlier.before b.earlier.span b.came

-- what came to the entry at a place is carried into it
abbrev IsKept : WriteId → ℕ → Entry → Type 0
IsKept w i e = Brought whole_app whole i e w → has_id w (carried_at whole_app whole i e) ≡ true

no_loss : IsFirstLoss whole_app whole None
no_loss i e at hands w b =
    elim (cases_lt i 5) [
      | inl low ↦ absurd (none_brought transfers kept i e at low hands w b)
      | inr past ↦
          let within : i < 6 = slice_get_within whole i e at in
          let last : 5 ≡ i = omega arith in
          subst (λ (n : ℕ). slice_get whole n ≡ Some e → IsKept w n e) last at_last at b
    ]
  where
    at_last : slice_get whole 5 ≡ Some e → IsKept w 5 e
    at_last there =
        let its : writes_j (k_1 ∷ []) ≡ e = cc in
        subst (IsKept w 5) its (λ came. ap (has_id w) into_whole ∙ held_at_last w came)

-- ---- the reads by span

abbrev in_span : ℕ → Span
in_span n = record { birth = birth; span = n }

first_read : reads_of lossy birth 1 ≡ 1 ∷ []
first_read = refl

second_read : reads_of lossy birth 2 ≡ 4 ∷ []
second_read = refl

both_read : (has_read lossy (in_span 1) ≡ true) × (has_read lossy (in_span 2) ≡ true)
both_read = (refl, refl)

in_order : IsBefore (in_span 1) (in_span 2)
in_order = let less : 1 < 2 = omega arith in inr (refl, inr (refl, less))

-- there is no third span, and the reads are of no other process
no_third : has_read lossy (in_span 3) ≡ false
no_third = refl

no_other : reads_of lossy (record { object = 1; place = 2 }) 1 ≡ []
no_other = refl
