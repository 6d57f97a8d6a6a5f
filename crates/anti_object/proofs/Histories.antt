-- What an object stands for after a call, and after one for which there was no memory.
use Rattle.std.proofs.Common.{◌≡◌, List, [], ◌∷◌, ◌++◌, sym, subst}
use Rattle.anti_kind.specs.declared.entry.Entry.{Entry}
use Rattle.anti_kind.specs.Objects.{Start, IsLegal, Follows}
use Rattle.anti_kind.specs.Starts.{IsStart}
use Rattle.anti_kind.proofs.Histories.{legal_more}
use Rattle.anti_object.specs.declared.object.Object.{Object}
use Rattle.anti_object.specs.Standing.{object_start, ObjectAt, ObjectStands}

pub at_more : (o n : Object) (h : List Entry) (e : Entry) → ObjectAt o h → Follows (object_start o) h e → object_start n ≡ object_start o
    → ObjectStands n (h ++ e ∷ []) → ObjectAt n (h ++ e ∷ [])
at_more o n h e at f same stands = record {
  sane = subst IsStart (sym same) at.sane;
  legal = subst (λ (x : Start). IsLegal x (h ++ e ∷ [])) (sym same) (legal_more (object_start o) h e at.legal f);
  state = stands;
}

pub at_kept : (o n : Object) (h : List Entry) → ObjectAt o h → object_start n ≡ object_start o → ObjectStands n h → ObjectAt n h
at_kept o n h at same stands = record {
  sane = subst IsStart (sym same) at.sane;
  legal = subst (λ (x : Start). IsLegal x h) (sym same) at.legal;
  state = stands;
}
