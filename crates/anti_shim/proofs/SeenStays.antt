-- What a read behind a sight shows.
use Rattle.std.proofs.Common.{◌≡◌, ⊎_elim, ℕ, zero, suc, ◌-◌, ◌<◌, ◌≤◌, Bool, true, false, cond, List, [], ◌∷◌, ◌++◌, get_or, slice_get, All, ap, sym, ◌∙◌, subst, le-ltb, lt-ltb, append_assoc, arith}
use Rattle.std.specs.Prelude.{Option, None, Some, Result, Ok, Err}
use Rattle.std.proofs.lemmas.Bool.{cases_lt}
use Rattle.std.proofs.lemmas.Option.{slice_get_within}
use Rattle.anti_ids.specs.List.{Listed, plain}
use Rattle.anti_kind.specs.declared.call.Call.TheVariants.{Read}
use Rattle.anti_kind.specs.declared.call.Reply.{Reply}
use Rattle.anti_kind.specs.declared.call.Reply.TheVariants.{Shown}
use Rattle.anti_kind.specs.declared.entry.Entry.{Entry}
use Rattle.anti_kind.specs.declared.port.Answer.TheVariants as port
use Rattle.anti_kind.specs.declared.row.Row.{Row}
use Rattle.anti_kind.specs.Inbox.{numbered}
use Rattle.anti_kind.specs.Laws.{FindsAll, FoundStays}
use Rattle.anti_kind.specs.Store.{Store, is_visible, shown_row}
use Rattle.anti_kind.specs.Objects.{Start, store, IsLegal}
use Rattle.anti_kind.specs.Ports.{View, Answered, IsMade}
use Rattle.anti_kind.specs.Entries.{entry_of}
use Rattle.anti_kind.proofs.Histories.{legal_front}
use Rattle.anti_shim.specs.declared.caller.Caller.{Caller}
use Rattle.anti_shim.specs.declared.caller.Made.{Made}
use Rattle.anti_shim.specs.declared.fault.ShimFault.{ShimFault}
use Rattle.anti_shim.specs.declared.looks.PlannedLook.{PlannedLook}
use Rattle.anti_shim.specs.declared.sight.Sight.{Sight}
use Rattle.anti_shim.specs.Shims.{Gives, IsShown}
use Rattle.anti_shim.specs.Sights.{IsSeen}
use Rattle.anti_shim.specs.Steps.{Step, asking, IsAsked}
use Rattle.anti_shim.proofs.NextCall.{answered_made}

-- a list, split at an element
pub record IsSplit {X : Type 0} (xs : List X) (x : X) : Type 0 where
  pub front : List X
  pub behind : List X
  pub is : xs ≡ front ++ x ∷ behind

split_at : {X : Type 0} (xs : List X) (i : ℕ) (x : X) → slice_get xs i ≡ Some x → IsSplit xs x
split_at {X} [] i x is = let within : i < 0 = slice_get_within {A = X} [] i x is in absurd (omega arith)
split_at (y ∷ ys) zero x is = record { front = []; behind = ys; is = let same : y ≡ x = cc in ap (λ z. z ∷ ys) same }
split_at (y ∷ ys) (suc i) x is =
    let rest = split_at ys i x is in record { front = y ∷ rest.front; behind = rest.behind; is = ap (λ zs. y ∷ zs) rest.is }

numbered_split : {X : Type 0} (xs : List X) (n : ℕ) (x : X) → numbered xs n ≡ Some x → IsSplit xs x
numbered_split {X} xs n x is =
    ⊎_elim (λ (some : 0 < n). split_at xs (n - 1) x (sym (ap (λ (b : Bool). cond b (slice_get xs (n - 1)) None) (lt-ltb 0 n some)) ∙ is))
    (λ (none : n ≤ 0). let no : None ≡ Some x = sym (ap (λ (b : Bool). cond b (slice_get xs (n - 1)) None) (le-ltb 0 n none)) ∙ is in absurd (cc))
    (cases_lt 0 n)

same_row : (row other : Row) → Shown (plain (row ∷ [])) ≡ Shown (plain (other ∷ [])) → row ≡ other
same_row row other is =
    let same : plain (row ∷ []) ≡ plain (other ∷ []) = cc in
    let items : row ∷ [] ≡ other ∷ [] = ap (λ (l : Listed Row). l.items) same in
    cc

module _ (s : Store) (stays : FoundStays s) (region : ℕ) (key : List ℕ) where
  -- behind the history in which a sight was seen
  shows_seen : (now : ℕ → View) (who : Caller) (look : PlannedLook) (sight : Sight) → IsSeen now who region look sight
      → (h rest : List Entry) → h ≡ (now look.store).seen ++ rest → IsLegal (store s) h → All (λ id. id.key ≡ key → id.version ≤ (shown_row s h region key).version) look.ids
  shows_seen now who look sight seen h rest is legal i d within own =
      let split = numbered_split (now look.store).seen sight.place seen.entry seen.place in
      let whole : h ≡ split.front ++ seen.entry ∷ (split.behind ++ rest) = is ∙ ap (λ (es : List Entry). es ++ rest) split.is ∙ append_assoc split.front (seen.entry ∷ split.behind) rest in
      let finds : FindsAll region look.ids seen.entry = record { dry = false; call = seen.call; reply = seen.reply } in
      let each = stays split.front (split.behind ++ rest) seen.entry region look.ids (subst (λ (es : List Entry). IsLegal (store s) es) whole legal) finds in
      let all = subst (λ (es : List Entry). All (λ id. (is_visible s es region id ≡ true) × (id.version ≤ (shown_row s es region id.key).version)) look.ids) (sym whole) each in
      subst (λ (k : List ℕ). (get_or look.ids i d).version ≤ (shown_row s h region k).version) own (all i d within).1

  -- a read that was made
  made_behind : (step : Step) (who : Caller) (look : PlannedLook) (sight : Sight) (row : Row) (place stamp : ℕ) (reply : Reply) → IsSeen step.old who region look sight → reply ≡ Shown (plain (row ∷ []))
      → Answered (Some (store s)) (asking step.before look.store (Read region key)) (step.old look.store) (step.new look.store) (port.Made place stamp reply)
      → All (λ id. id.key ≡ key → id.version ≤ row.version) look.ids
  made_behind step who look sight row place stamp reply seen shows a =
      let h : List Entry = a.0.0 in
      let e : Entry = entry_of (asking step.before look.store (Read region key)) a.0.1.0 place stamp reply in
      let m : IsMade (store s) step.before.clock (step.old look.store) (step.new look.store) h e = a.0.1.1 in
      let is : row ≡ shown_row s h region key = same_row row (shown_row s h region key) (sym shows ∙ m.follows.reply) in
      let legal : IsLegal (store s) h = legal_front (store s) h (e ∷ []) (subst (λ (es : List Entry). IsLegal (store s) es) m.seen a.2) in
      subst (λ (r : Row). All (λ id. id.key ≡ key → id.version ≤ r.version) look.ids) (sym is)
      (shows_seen step.old who look sight seen h m.front.0 m.front.1 legal)

  pub read_behind : (step : Step) (who : Caller) (look : PlannedLook) (sight : Sight) (row : Row) → step.starts look.store ≡ Some (store s) → IsSeen step.old who region look sight
      → (outcome : Result Made ShimFault) → IsAsked step look.store (Read region key) outcome → Gives IsShown outcome (Ok row) → All (λ id. id.key ≡ key → id.version ≤ row.version) look.ids
  read_behind step who look sight row is_start seen (Err refusal) asked gives = let no : ◌≡◌ {A = Result Row ShimFault} (Ok row) (Err refusal) = gives in absurd (cc)
  read_behind step who look sight row is_start seen (Ok made) asked gives =
      let call = Read region key in
      made_behind step who look sight row made.place made.stamp made.reply seen gives
      (subst (λ (o : Option Start). Answered o (asking step.before look.store call) (step.old look.store) (step.new look.store) (port.Made made.place made.stamp made.reply)) is_start (answered_made step look.store call made asked))
