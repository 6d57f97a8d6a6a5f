use Rattle.std.proofs.Common.{◌≡◌, ℕ, ◌+◌, ◌-◌, ◌&&◌, Bool, true, map, get_or, set, List, sym, ap, subst, ◌∙◌, arith}
use Rattle.std.proofs.lemmas.Grind.{common_steps}
use Rattle.std.proofs.lemmas.List.{get_or_default}
use Rattle.anti_replicas.specs.declared.kept_write.KeptWrite.{KeptWrite}
use Rattle.anti_replicas.specs.declared.newest.Newest.{Newest}
use Rattle.anti_replicas.specs.declared.replicas.Replicas.{Replicas}
use Rattle.anti_replicas.specs.inner.Backlogs.{group_whole}
use Rattle.anti_replicas.specs.inner.Marks.{has_all, marked}
use Rattle.anti_replicas.specs.inner.Standing.{BringsIf, LeavesIf, ReachesIf, group_at}
use Rattle.anti_replicas.proofs.replicas.Replicas.mark.Goals as goal
use Rattle.anti_replicas.proofs.replicas.Replicas.mark.Goals.{then-is_whole, else-is_whole}

pub returns : goal.returns
returns c =
    let m : Replicas = c.args.self.now in
    let n : Replicas = c.if-is_whole.self in
    let g : ℕ = c.args.region in
    let v : ℕ = c.args.version in
    let p : ℕ = c.args.part in
    let its : (d : KeptWrite) → c.mark.new.self ≡ marked g p (get_or m.kept.items (v - 1) d) = λ d.
    c.mark.ensures ∙ ap (marked g p) (c.index_mut-kept.ensures.value ∙ get_or_default m.kept.items (v - 1) c.index_mut-kept.result.now d (omega (arith, c.requires.first, c.requires.kept))) in
    elim c.if-is_whole.branch [
      | then-is_whole w ↦
          let only = w.self-is ∙ w.settle.ensures.only in
          let kept : n.kept.items ≡ set m.kept.items (v - 1) c.mark.new.self = ap (λ (l : Replicas). l.kept.items) only in
          let on : (d : KeptWrite) → true ≡ has_all g (marked g p (get_or m.kept.items (v - 1) d)) = λ d. sym w.if-is_whole.true ∙ c.is_whole.ensures ∙ ap (has_all g) (its d) in
          record {
            kind_is = ap (λ (l : Replicas). l.kind) only;
            store_is = ap (λ (l : Replicas). l.store) only;
            regions_are = ap (λ (l : Replicas). l.regions) only;
            replicas_are = ap (λ (l : Replicas). l.replicas) only;
            kept_is = λ d. kept ∙ ap (set m.kept.items (v - 1)) (its d);
            brings = λ d.
                subst (λ (b : Bool). BringsIf b m.newest n.newest g (get_or m.kept.items (v - 1) d).number v) (on d)
                (subst (λ (new : Newest). BringsIf true m.newest new g (get_or m.kept.items (v - 1) d).number v) (sym (ap (λ (l : Replicas). l.newest) only))
                (subst (λ (i : ℕ). BringsIf true m.newest w.bring.new.self g i v) (ap (λ (k : KeptWrite). k.number) (its d)) w.bring.ensures));
            leaves = λ d.
                subst (λ (b : Bool). LeavesIf (b && group_whole (map (has_all g) n.kept.items) (group_at v)) m.backlogs.items n.backlogs.items g (group_at v)) (on d)
                (subst (λ (ks : List KeptWrite). LeavesIf (group_whole (map (has_all g) ks) (group_at v)) m.backlogs.items n.backlogs.items g (group_at v)) (sym kept)
                (subst (λ (l : Replicas). LeavesIf (group_whole (map (has_all g) (set m.kept.items (v - 1) c.mark.new.self)) (group_at v)) m.backlogs.items l.backlogs.items g (group_at v)) (sym w.self-is)
                w.settle.ensures.leaves));
            reaches = λ d.
                subst (λ (b : Bool). ReachesIf b m.upto n.upto n.kept.items n.backlogs.items g v) (on d)
                (subst (λ (l : Replicas). ReachesIf true m.upto l.upto l.kept.items l.backlogs.items g v) (sym w.self-is) w.settle.ensures.reaches);
            longest_is = ap (λ (l : Replicas). l.longest) only;
            held_is = ap (λ (l : Replicas). l.held + 1) only;
            owed_is = omega (arith, ap (λ (l : Replicas). l.owed) only, c.requires.owed);
          }
      | else-is_whole w ↦ grind (arith, common_steps)
    ]
