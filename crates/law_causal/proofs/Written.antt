-- What is carried was written in the history of its store.
use Rattle.std.proofs.Common.{◌≡◌, ℕ, zero, suc, ◌<◌, ◌==◌, ◌&&◌, ◌||◌, Bool, true, false, cond, List, [], ◌∷◌, Some, slice_get, take, filter, flat_map, bytes_eq, eq-eqb, refl, sym, ap, ◌∙◌, arith}
use Rattle.std.specs.List.{list_any}
use Rattle.std.proofs.lemmas.Bool.{and_from, or_left, or_right}
use Rattle.std.proofs.lemmas.List.Folds.{list_any-append}
use Rattle.std.proofs.lemmas.Slice.Eq.{bytes_eq-Decides}
use Rattle.anti_ids.specs.Ids.{has_id}
use Rattle.anti_ids.specs.declared.id.WriteId.{WriteId}
use Rattle.anti_kind.specs.declared.call.Call.{Call}
use Rattle.anti_kind.specs.declared.call.Call.TheVariants as calls
use Rattle.anti_kind.specs.declared.call.Reply.{Reply}
use Rattle.anti_kind.specs.declared.call.Reply.TheVariants as replies
use Rattle.anti_kind.specs.declared.entry.Entry.{Entry}
use Rattle.anti_kind.specs.declared.row.Row.{Row}
use Rattle.anti_kind.specs.Store.{is_written}
use Rattle.anti_kind.specs.Stored as stored
use Rattle.anti_app.specs.declared.app.App.{App}
use Rattle.anti_trace.specs.Traces.{entries_on, is_on}
use Rattle.law_causal.specs.Words.{id_written}
use Rattle.law_causal.specs.Pasts.{WrittenBefore, kept_with}
use Rattle.law_causal.specs.Carried.{carried_at}
use Rattle.law_causal.proofs.Facts.{Facts}
use Rattle.law_causal.proofs.Ids.{in_id_at}
use Rattle.law_causal.proofs.Known.{forward}
use Rattle.law_causal.proofs.Causes.{carried_was_written, kept_was_written}

-- ---- lists

any_joined : {X Y : Type 0} (p : Y → Bool) (f : X → List Y) (xs : List X) → list_any p (flat_map f xs) ≡ list_any (λ x. list_any p (f x)) xs
any_joined p f [] = refl
any_joined p f (x ∷ xs) = list_any-append p (f x) (flat_map f xs) ∙ ap (λ (b : Bool). list_any p (f x) || b) (any_joined p f xs)

-- an element of a front that passes
module _ {X : Type 0} (p q : X → Bool) where
  any_early : (xs : List X) (i j : ℕ) (x : X) → i < j → slice_get xs i ≡ Some x → p x ≡ true → q x ≡ true → list_any q (filter p (take j xs)) ≡ true
  any_early [] i j x low at passes is = absurd (cc)
  any_early (y ∷ ys) i zero x low at passes is = absurd (omega (arith, low))
  any_early (y ∷ ys) zero (suc j) x low at passes is =
      let same : y ≡ x = cc in
      ap (λ (b : Bool). list_any q (cond b (y ∷ filter p (take j ys)) (filter p (take j ys)))) (ap p same ∙ passes)
      ∙ or_left (q y) (list_any q (filter p (take j ys))) (ap q same ∙ is)
  any_early (y ∷ ys) (suc i) (suc j) x low at passes is = further (p y) (any_early ys i j x (omega (arith, low)) at passes is)
    where
      further : (b : Bool) → list_any q (filter p (take j ys)) ≡ true → list_any q (cond b (y ∷ filter p (take j ys)) (filter p (take j ys))) ≡ true
      further true later = or_right (q y) (list_any q (filter p (take j ys))) later
      further false later = later

-- ---- writes

-- whether a row is that of an id
abbrev is_row : WriteId → Row → Bool
is_row w r = (r.version == w.version) && bytes_eq r.key w.key

its_row : (o : ℕ) (c : Call) (r : Reply) (w : WriteId) → has_id w (id_written o c r) ≡ true → (o ≡ w.store) × (list_any (is_row w) (stored.wrote c r) ≡ true)
its_row o (calls.Write key value lineage) (replies.Written name version kept) w has =
    let is = (in_id_at w o name version has).1 in
    let number : version ≡ w.version = ap (λ (i : WriteId). i.version) (sym is) in
    let named = (bytes_eq-Decides name w.key).1 (ap (λ (i : WriteId). i.key) (sym is)) in
    let both = and_from (version == w.version) (bytes_eq name w.key) (eq-eqb version w.version number) named in
    (ap (λ (i : WriteId). i.store) (sym is), or_left ((version == w.version) && bytes_eq name w.key) false both)
its_row o c r w has = absurd (cc)

module _ (app : App) (trace : List Entry) (facts : Facts app trace) (j : ℕ) (e : Entry) (at : slice_get trace j ≡ Some e) (w : WriteId) where
  -- What was written before is in the history of its store, as this is before the entry.
  in_history : WrittenBefore trace j w → is_written (entries_on w.store (take j trace)) w ≡ true
  in_history from =
      let its = its_row from.entry.object from.entry.call from.entry.reply w from.wrote in
      any_joined (is_row w) (λ (d : Entry). stored.wrote d.call d.reply) (entries_on w.store (take j trace))
      ∙ any_early (is_on w.store) (λ (d : Entry). list_any (is_row w) (stored.wrote d.call d.reply)) trace from.place j from.entry
      (forward app trace facts from.before) from.there (eq-eqb from.entry.object w.store its.0) its.1

  -- So this has the write of each id that is carried into the entry, and of each that is kept beside the entry's write.
  pub carried_is_written : has_id w (carried_at app trace j e) ≡ true → is_written (entries_on w.store (take j trace)) w ≡ true
  carried_is_written has = in_history (carried_was_written app trace facts j e at w has)

  pub kept_is_written : has_id w (kept_with e) ≡ true → is_written (entries_on w.store (take j trace)) w ≡ true
  kept_is_written has = in_history (kept_was_written app trace facts j e w at has)
