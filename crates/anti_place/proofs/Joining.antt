-- What all ways through a body find by one doubt is what is found where it is carried through on all of them together.
use Rattle.std.proofs.Common.{◌≡◌, ℕ, zero, suc, ◌+◌, Bool, true, false, ◌||◌, List, [], ◌∷◌, ◌++◌, map, length, Option, None, refl, sym, ap, ap₂, ◌∙◌, subst}
use Rattle.std.proofs.Math.Path.{fun_ext}
use Rattle.anti_lang.specs.Program.{Step, Block, End, Then, Nack, Repeat, IfAbsent}
use Rattle.anti_lang.specs.Blocks.{lines_of}
use Rattle.anti_place.specs.declared.doubt.Doubt.{Doubt}
use Rattle.anti_place.specs.declared.fault.Fault.{Fault}
use Rattle.anti_place.specs.declared.flow.Flow.{Flow}
use Rattle.anti_place.specs.declared.flow.Flow.TheVariants.{Stops, Clears, Keeps, Sets}
use Rattle.anti_place.specs.declared.search.Search.{Search}
use Rattle.anti_place.specs.Paths.{Path, in_turn, turned, height, step_paths, block_paths, paths, earlier}
use Rattle.anti_place.specs.inner.Joined.{left, is_stop, then_flow, either, turned_flow, does, through, through_block, fault_here, turned_fault, behind, fault_at, fault_in, fault_of}
use Rattle.anti_place.proofs.Earlier.{earlier_none, earlier_itself, earlier_comm, earlier_assoc, earlier_mixed}
use Rattle.anti_place.proofs.Flows.{then_assoc, then_itself, then_keeps, then_stops, either_assoc, either_itself, either_none, then_either, either_then}

-- ---- what comes behind

abbrev pub Further : Type 0
Further = Bool → Option Fault

-- where some way comes out, what comes behind is come to
pub behind_left : (flow : Flow) (held : Bool) (Q : Further) → is_stop flow ≡ false → behind flow held Q ≡ Q (left flow held)
behind_left Stops held Q goes = cc
behind_left Clears held Q goes = refl
behind_left Keeps held Q goes = refl
behind_left Sets held Q goes = refl

behind_none : (flow : Flow) (held : Bool) → behind flow held (λ entered. None) ≡ None
behind_none Stops held = refl
behind_none Clears held = refl
behind_none Keeps held = refl
behind_none Sets held = refl

pub behind_both : (flow : Flow) (held : Bool) (P Q : Further) → behind flow held (λ entered. earlier (P entered) (Q entered)) ≡ earlier (behind flow held P) (behind flow held Q)
behind_both Stops held P Q = refl
behind_both Clears held P Q = refl
behind_both Keeps held P Q = refl
behind_both Sets held P Q = refl

pub behind_then : (f g : Flow) (held : Bool) (Q : Further) → behind f held (λ entered. behind g entered Q) ≡ behind (then_flow f g) held Q
behind_then Stops g held Q = refl
behind_then Clears Stops held Q = refl
behind_then Clears Clears held Q = refl
behind_then Clears Keeps held Q = refl
behind_then Clears Sets held Q = refl
behind_then Keeps g held Q = refl
behind_then Sets Stops held Q = refl
behind_then Sets Clears held Q = refl
behind_then Sets Keeps held Q = refl
behind_then Sets Sets held Q = refl

-- where the doubt is held no less is found
abbrev pub Grows : Further → Type 0
Grows Q = Q true ≡ earlier (Q false) (Q true)

over_false : (Q : Further) → Grows Q → (held : Bool) → earlier (Q false) (Q held) ≡ Q held
over_false Q grows true = sym grows
over_false Q grows false = earlier_itself (Q false)

under_true : (Q : Further) → Grows Q → (held : Bool) → earlier (Q held) (Q true) ≡ Q true
under_true Q grows true = earlier_itself (Q true)
under_true Q grows false = sym grows

grows_both : (P Q : Further) → Grows P → Grows Q → Grows (λ held. earlier (P held) (Q held))
grows_both P Q p q = ap₂ earlier p q ∙ earlier_mixed (P false) (P true) (Q false) (Q true)

grows_behind : (flow : Flow) (Q : Further) → Grows Q → Grows (λ held. behind flow held Q)
grows_behind Stops Q grows = refl
grows_behind Clears Q grows = sym (earlier_itself (Q false))
grows_behind Keeps Q grows = grows
grows_behind Sets Q grows = sym (earlier_itself (Q true))

behind_either : (f g : Flow) (held : Bool) (Q : Further) → Grows Q → earlier (behind f held Q) (behind g held Q) ≡ behind (either f g) held Q
behind_either Stops g held Q grows = refl
behind_either Clears Stops held Q grows = earlier_none (Q false)
behind_either Clears Clears held Q grows = earlier_itself (Q false)
behind_either Clears Keeps held Q grows = over_false Q grows held
behind_either Clears Sets held Q grows = sym grows
behind_either Keeps Stops held Q grows = earlier_none (Q held)
behind_either Keeps Clears held Q grows = earlier_comm (Q held) (Q false) ∙ over_false Q grows held
behind_either Keeps Keeps held Q grows = earlier_itself (Q held)
behind_either Keeps Sets held Q grows = under_true Q grows held
behind_either Sets Stops held Q grows = earlier_none (Q true)
behind_either Sets Clears held Q grows = earlier_comm (Q true) (Q false) ∙ sym grows
behind_either Sets Keeps held Q grows = earlier_comm (Q true) (Q held) ∙ under_true Q grows held
behind_either Sets Sets held Q grows = earlier_itself (Q true)

-- entered with what comes before, and with what one turn leaves
pub entered : (f : Flow) (held : Bool) (Q : Further) → Grows Q → earlier (Q held) (behind f held Q) ≡ Q (held || left f held)
entered Stops true Q grows = earlier_none (Q true)
entered Stops false Q grows = earlier_none (Q false)
entered Clears true Q grows = earlier_comm (Q true) (Q false) ∙ sym grows
entered Clears false Q grows = earlier_itself (Q false)
entered Keeps true Q grows = earlier_itself (Q true)
entered Keeps false Q grows = earlier_itself (Q false)
entered Sets true Q grows = earlier_itself (Q true)
entered Sets false Q grows = sym grows

module _ (search : Search) (doubt : Doubt) where
  -- ---- ways

  -- what a way does to the doubt, and what it finds by it
  abbrev pub path_flow : Path → Flow
  path_flow [] = Keeps
  path_flow (spot ∷ path) = then_flow (does doubt spot.statement) (path_flow path)

  abbrev pub path_fault : Path → Bool → Option Fault
  path_fault [] held = None
  path_fault (spot ∷ path) held = earlier (fault_here search doubt spot.line spot.statement held) (behind (does doubt spot.statement) held (path_fault path))

  -- what some ways do to it and find
  abbrev pub any_flow : List Path → Flow
  any_flow [] = Stops
  any_flow (path ∷ paths) = either (path_flow path) (any_flow paths)

  abbrev pub least : List Path → Bool → Option Fault
  least [] held = None
  least (path ∷ paths) held = earlier (path_fault path held) (least paths held)

  grows_path : (path : Path) → Grows (path_fault path)
  grows_path [] = refl
  grows_path (spot ∷ path) =
      grows_both (fault_here search doubt spot.line spot.statement) (λ held. behind (does doubt spot.statement) held (path_fault path))
      refl (grows_behind (does doubt spot.statement) (path_fault path) (grows_path path))

  grows_least : (paths : List Path) → Grows (least paths)
  grows_least [] = refl
  grows_least (path ∷ paths) = grows_both (path_fault path) (least paths) (grows_path path) (grows_least paths)

  -- ---- a way behind a way

  flow_append : (p q : Path) → path_flow (p ++ q) ≡ then_flow (path_flow p) (path_flow q)
  flow_append [] q = refl
  flow_append (spot ∷ p) q = ap (then_flow (does doubt spot.statement)) (flow_append p q) ∙ sym (then_assoc (does doubt spot.statement) (path_flow p) (path_flow q))

  fault_append : (p q : Path) (held : Bool) → path_fault (p ++ q) held ≡ earlier (path_fault p held) (behind (path_flow p) held (path_fault q))
  fault_append [] q held = refl
  fault_append (spot ∷ p) q held =
      let here : Option Fault = fault_here search doubt spot.line spot.statement held in
      let flow : Flow = does doubt spot.statement in
      ap (λ (Q : Further). earlier here (behind flow held Q)) (fun_ext (λ (entered : Bool). fault_append p q entered))
      ∙ ap (earlier here) (behind_both flow held (path_fault p) (λ entered. behind (path_flow p) entered (path_fault q)))
      ∙ ap (λ (x : Option Fault). earlier here (earlier (behind flow held (path_fault p)) x)) (behind_then flow (path_flow p) held (path_fault q))
      ∙ sym (earlier_assoc here (behind flow held (path_fault p)) (behind (then_flow flow (path_flow p)) held (path_fault q)))

  -- ---- some ways and others

  any_append : (ps qs : List Path) → any_flow (ps ++ qs) ≡ either (any_flow ps) (any_flow qs)
  any_append [] qs = refl
  any_append (p ∷ ps) qs = ap (either (path_flow p)) (any_append ps qs) ∙ sym (either_assoc (path_flow p) (any_flow ps) (any_flow qs))

  least_append : (ps qs : List Path) (held : Bool) → least (ps ++ qs) held ≡ earlier (least ps held) (least qs held)
  least_append [] qs held = refl
  least_append (p ∷ ps) qs held =
      ap (earlier (path_fault p held)) (least_append ps qs held) ∙ sym (earlier_assoc (path_fault p held) (least ps held) (least qs held))

  flows_behind : (p : Path) (qs : List Path) → any_flow (map (λ further. p ++ further) qs) ≡ then_flow (path_flow p) (any_flow qs)
  flows_behind p [] = sym (then_stops (path_flow p))
  flows_behind p (q ∷ qs) = ap₂ either (flow_append p q) (flows_behind p qs) ∙ sym (then_either (path_flow p) (path_flow q) (any_flow qs))

  flows_turns : (ps qs : List Path) → any_flow (in_turn ps qs) ≡ then_flow (any_flow ps) (any_flow qs)
  flows_turns [] qs = refl
  flows_turns (p ∷ ps) qs =
      any_append (map (λ further. p ++ further) qs) (in_turn ps qs) ∙ ap₂ either (flows_behind p qs) (flows_turns ps qs)
      ∙ sym (either_then (path_flow p) (any_flow ps) (any_flow qs))

  faults_behind : (p q : Path) (qs : List Path) (held : Bool)
      → least (map (λ further. p ++ further) (q ∷ qs)) held ≡ earlier (path_fault p held) (behind (path_flow p) held (least (q ∷ qs)))
  faults_behind p q [] held =
      earlier_none (path_fault (p ++ q) held) ∙ fault_append p q held
      ∙ ap (λ (Q : Further). earlier (path_fault p held) (behind (path_flow p) held Q)) (fun_ext (λ (entered : Bool). sym (earlier_none (path_fault q entered))))
  faults_behind p q (r ∷ qs) held =
      let one : Option Fault = behind (path_flow p) held (path_fault q) in
      let more : Option Fault = behind (path_flow p) held (least (r ∷ qs)) in
      ap₂ earlier (fault_append p q held) (faults_behind p r qs held)
      ∙ earlier_mixed (path_fault p held) one (path_fault p held) more
      ∙ ap₂ earlier (earlier_itself (path_fault p held)) (sym (behind_both (path_flow p) held (path_fault q) (least (r ∷ qs))))

  fault_turns : (ps : List Path) (q : Path) (qs : List Path) (held : Bool)
      → least (in_turn ps (q ∷ qs)) held ≡ earlier (least ps held) (behind (any_flow ps) held (least (q ∷ qs)))
  fault_turns [] q qs held = refl
  fault_turns (p ∷ ps) q qs held =
      let one : Option Fault = behind (path_flow p) held (least (q ∷ qs)) in
      let more : Option Fault = behind (any_flow ps) held (least (q ∷ qs)) in
      least_append (map (λ further. p ++ further) (q ∷ qs)) (in_turn ps (q ∷ qs)) held
      ∙ ap₂ earlier (faults_behind p q qs held) (fault_turns ps q qs held)
      ∙ earlier_mixed (path_fault p held) one (least ps held) more
      ∙ ap (earlier (earlier (path_fault p held) (least ps held)))
      (behind_either (path_flow p) (any_flow ps) held (least (q ∷ qs)) (grows_least (q ∷ qs)))

  -- ---- what ways find

  -- Some ways, and there is one, do this to the doubt together, and find this by it.
  pub record Finds (ps : List Path) (flow : Flow) (fault : Further) : Type 0 where
    pub flows : any_flow ps ≡ flow
    pub found : (held : Bool) → least ps held ≡ fault held
    pub one : Path
    pub others : List Path
    pub some : ps ≡ one ∷ others

  finds_grows : {ps : List Path} {flow : Flow} {fault : Further} → Finds ps flow fault → Grows fault
  finds_grows {ps} {flow} {fault} finds = sym (finds.found true) ∙ grows_least ps ∙ ap₂ earlier (finds.found false) (finds.found true)

  finds_none : Finds ([] ∷ []) Keeps (λ held. None)
  finds_none = record { flows = refl; found = λ held. refl; one = []; others = []; some = refl }

  finds_leaf : (line : ℕ) (statement : Step) → Finds ((record { line = line; statement = statement } ∷ []) ∷ []) (does doubt statement) (fault_here search doubt line statement)
  finds_leaf line statement = record {
    flows = either_none (then_flow (does doubt statement) Keeps) ∙ then_keeps (does doubt statement);
    found = λ held.
        let here : Option Fault = fault_here search doubt line statement held in
        earlier_none (earlier here (behind (does doubt statement) held (path_fault []))) ∙ ap (earlier here) (behind_none (does doubt statement) held) ∙ earlier_none here;
    one = record { line = line; statement = statement } ∷ [];
    others = [];
    some = refl;
  }

  finds_turns : {ps qs : List Path} {f g : Flow} {P Q : Further} → Finds ps f P → Finds qs g Q
      → Finds (in_turn ps qs) (then_flow f g) (λ held. earlier (P held) (behind f held Q))
  finds_turns {ps} {qs} {f} {g} {P} {Q} these those = record {
    flows = flows_turns ps qs ∙ ap₂ then_flow these.flows those.flows;
    found = λ held.
        subst (λ (rs : List Path). least (in_turn ps rs) held ≡ earlier (least ps held) (behind (any_flow ps) held (least rs))) (sym those.some)
        (fault_turns ps those.one those.others held)
        ∙ ap₂ earlier (these.found held) (ap (λ (x : Flow). behind x held (least qs)) these.flows ∙ ap (behind f held) (fun_ext those.found));
    one = these.one ++ those.one;
    others = map (λ further. these.one ++ further) those.others ++ in_turn these.others (those.one ∷ those.others);
    some = ap₂ in_turn these.some those.some;
  }

  finds_turned : (count : ℕ) {ps : List Path} {f : Flow} {P : Further} → Finds ps f P
      → Finds (turned count ps) (turned_flow count f) (λ held. turned_fault count (P (held || left f held)))
  finds_turned zero finds = finds_none
  finds_turned (suc n) {ps} {f} {P} finds =
      let twice : Finds (in_turn ps ps) (then_flow f f) (λ held. earlier (P held) (behind f held P)) = finds_turns finds finds in
      record {
        flows = any_append ps (in_turn ps ps) ∙ ap₂ either finds.flows (twice.flows ∙ then_itself f) ∙ either_itself f;
        found = λ held.
            least_append ps (in_turn ps ps) held ∙ ap₂ earlier (finds.found held) (twice.found held)
            ∙ sym (earlier_assoc (P held) (P held) (behind f held P)) ∙ ap (λ (x : Option Fault). earlier x (behind f held P)) (earlier_itself (P held))
            ∙ entered f held P (finds_grows finds);
        one = finds.one;
        others = finds.others ++ in_turn ps ps;
        some = ap (λ (rs : List Path). rs ++ in_turn ps ps) finds.some;
      }

  finds_if : {ps : List Path} {f : Flow} {P : Further} → Finds ps f P → Finds ([] ∷ ps) (either Keeps f) P
  finds_if {ps} finds = record { flows = ap (either Keeps) finds.flows; found = λ held. finds.found held; one = []; others = ps; some = refl }

  mutual
    pub step_finds : (line : ℕ) (statement : Step) → Finds (step_paths line statement) (through doubt statement) (fault_at search doubt line statement)
    step_finds line (Repeat count block) = finds_turned count (block_finds (line + 1) block)
    step_finds line (IfAbsent x block) = finds_if (block_finds (line + 1) block)
    step_finds line statement = finds_leaf line statement

    pub block_finds : (line : ℕ) (block : Block) → Finds (block_paths line block) (through_block doubt block) (fault_in search doubt line block)
    block_finds line End = finds_none
    block_finds line (Then first rest) = finds_turns (step_finds line first) (block_finds (line + height first) rest)

  pub body_finds : (body : Block) → Finds (paths body) (then_flow (through_block doubt body) (does doubt Nack)) (fault_of search doubt body)
  body_finds body = finds_turns (block_finds 1 body) (finds_leaf (length (lines_of body) + 1) Nack)
