-- What came of the rounds of all workers: once the objects are closed there is a run of workers.
use Rattle.std.proofs.Common.{◌≡◌, ℕ, ◌+◌, ◌<◌, ◌⊎◌, false, true, List, [], length, map, get_or, inl, inr, refl, sym, ap, subst, ◌∙◌, arith}
use Rattle.std.specs.Prelude.{All, IfOk, IsTrue, None, Option, Result, Some, option_map, slice_get, slice_index_or}
use Rattle.std.proofs.lemmas.List.{length-map}
use Rattle.std.proofs.lemmas.List.Elements.{All-contains}
use Rattle.std.proofs.lemmas.Option.{get_or_from_slice_get, slice_get-map, slice_get_cases, slice_get_within}
use Rattle.anti_ids.specs.declared.memory.NoMemory.{NoMemory}
use Rattle.anti_kind.specs.declared.entry.Entry.{Entry}
use Rattle.anti_app.specs.declared.app.App.{App}
use Rattle.anti_app.specs.Sound.{is_sound}
use Rattle.anti_object.specs.declared.object.Object.{Object}
use Rattle.anti_proc.specs.Foreign.{is_foreign}
use Rattle.anti_proc.specs.Tasks.{task_of}
use Rattle.anti_shared.specs.Passes.{PassView, SharedView}
use Rattle.anti_trace.specs.Legal.{IsLegalTrace, bears}
use Rattle.anti_trace.specs.Traces.{IsTrace, entries_on}
use Rattle.anti_work.specs.Workers.{IsWorkersRun}
use Rattle.anti_work.specs.declared.done.Done.{Done}
use Rattle.anti_work.specs.declared.start.Start.{Start}
use Rattle.anti_work.specs.inner.Closing.{KnowAll}
use Rattle.anti_work.specs.inner.Firsts.{AreStartsOf, HaveWorked, given}
use Rattle.anti_work.specs.inner.Gathering.{HaveEnded}
use Rattle.anti_work.specs.inner.Joining.{IsDoneOf, passes_of}
use Rattle.anti_work.specs.inner.Knowing.{KnowsCalls, number_at}
use Rattle.anti_work.specs.inner.Starting.{HasForeign, HasWorked}
use Rattle.anti_work.specs.inner.Trying.{AllRefused, StartItsOwn}
use Rattle.anti_work.specs.inner.Works.{AreMadeBy}
use Rattle.anti_work.proofs.Gathered.{are_made}
use Rattle.anti_work.proofs.Left.{all_made_start, none_foreign_made}
use Rattle.anti_work.proofs.Merged.{merged_is_legal}
use Rattle.anti_work.proofs.WorkersRun.{workers_run}

-- ---- what all gave back

-- each worker had memory, so each has worked under its number
pub have_worked : (app : App) (shared : List (SharedView Object)) (starts : List Start) (results : List (Result Done NoMemory)) (all : List Done)
    → AreStartsOf app shared starts → length results ≡ length starts → results ≡ map given all
    → ((w : ℕ) (start : Start) (back : Result Done NoMemory) → w < length starts → IfOk (slice_index_or results w back) (HasWorked app shared (slice_index_or starts w start).number))
    → HaveWorked app shared all
have_worked app shared starts results all are long is each w done at =
    let low = slice_get_within all w done at in
    let many : length results ≡ length all = ap length is ∙ length-map all given in
    let there : slice_get results w ≡ Some (given done) =
    ap (λ (rs : List (Result Done NoMemory)). slice_get rs w) is ∙ slice_get-map given all w ∙ ap (option_map given) at in
    elim ((slice_get_cases starts w).1) as (λ _. HasWorked app shared (w + 1) done) [
      | inl found ↦
          let start : Start = found.0 in
          let read : slice_index_or results w (given done) ≡ given done = get_or_from_slice_get results w (given done) (given done) there in
          let begun : slice_index_or starts w start ≡ start = found.3 in
          let number : (slice_index_or starts w start).number ≡ w + 1 = ap (λ (s : Start). s.number) begun ∙ (are w start found.2).number_is in
          let worked : IfOk (slice_index_or results w (given done)) (HasWorked app shared (slice_index_or starts w start).number) = each w start (given done) found.1 in
          subst (λ (z : ℕ × Result Done NoMemory). IfOk z.1 (HasWorked app shared z.0)) (λ i. (number i, read i)) worked
      | inr past ↦ absurd (let beyond = past.0 in omega arith)
    ]

-- no pass was joined into those that a worker gives back
pub are_done : (app : App) (shared : List (SharedView Object)) (all : List Done) → HaveWorked app shared all → All (IsDoneOf shared) all
are_done app shared all have w d low =
    elim ((slice_get_cases all w).1) as (λ _. IsDoneOf shared (get_or all w d)) [
      | inl found ↦
          let worked : HasWorked app shared (w + 1) found.0 = have w found.0 found.2 in
          subst (IsDoneOf shared) (sym (get_or_from_slice_get all w found.0 d found.2))
          (record { of = worked.of; single = λ o pass at. (worked.knows.are.each o pass at).single })
      | inr past ↦ absurd (let beyond = past.0 in omega arith)
    ]

-- ---- the calls of each worker

module _ (app : App) (shared : List (SharedView Object)) (all : List Done) (have : HaveWorked app shared all) where
  abbrev calls_by : (w : ℕ) (found : Option Done) → slice_get all w ≡ found → List Entry
  calls_by w None at = []
  calls_by w (Some done) at = (have w done at).calls

  -- the calls of the worker at a place
  abbrev pub works : ℕ → List Entry
  works w = calls_by w (slice_get all w) refl

  -- what is known of them
  record Are (w : ℕ) (passes : List (PassView Object)) (calls : List Entry) : Type 0 where
    knows : KnowsCalls app (w + 1) passes calls
    own : StartItsOwn app (w + 1) calls
    ended : AllRefused app (w + 1) passes calls ⊎ HasForeign app calls

  are_by : (w : ℕ) (found : Option Done) (at : slice_get all w ≡ found) → w < length all → Are w (slice_index_or (map passes_of all) w []) (calls_by w found at)
  are_by w None at low =
      elim ((slice_get_cases all w).1) as (λ _. Are w (slice_index_or (map passes_of all) w []) []) [
        | inl found ↦ absurd (let both : None ≡ Some found.0 = sym at ∙ found.2 in cc)
        | inr past ↦ absurd (let beyond = past.0 in omega arith)
      ]
  are_by w (Some done) at low =
      let worked : HasWorked app shared (w + 1) done = have w done at in
      let there : slice_index_or (map passes_of all) w [] ≡ passes_of done =
      get_or_from_slice_get (map passes_of all) w (passes_of done) [] (slice_get-map passes_of all w ∙ ap (option_map passes_of) at) in
      subst (λ (ps : List (PassView Object)). Are w ps worked.calls) (sym there) (record { knows = worked.knows; own = worked.own; ended = worked.ended })

  are_at : (w : ℕ) → w < length (map passes_of all) → Are w (slice_index_or (map passes_of all) w []) (works w)
  are_at w low = are_by w (slice_get all w) refl (let long = length-map all passes_of in omega arith)

  pub know_all : KnowAll app (map passes_of all) works
  know_all w low = (are_at w low).knows

  -- ---- the run

  module _ (sound : IsTrue (is_sound app)) (histories : ℕ → List Entry) (ended : HaveEnded app (map passes_of all) histories works) where
    made : AreMadeBy app histories (λ w o. number_at (get_or (map passes_of all) w []) o) (length (map passes_of all)) works
    made = are_made app (map passes_of all) histories works ended

    module _ (trace : List Entry) (order : IsTrace trace) (same : (o : ℕ) → entries_on o trace ≡ histories o) where
      pub run_legal : IsLegalTrace app trace
      run_legal = merged_is_legal app histories (λ w o. number_at (get_or (map passes_of all) w []) o) (length (map passes_of all)) works made trace order same

      -- no worker met what is not of the application
      none_foreign : (w : ℕ) → w < length (map passes_of all) → HasForeign app (works w) → ⊥
      none_foreign w low (e, among, foreign) =
          let seat : ℕ → ℕ → ℕ = λ v o. number_at (get_or (map passes_of all) v []) o in
          let starts : bears e.call ≡ true → task_of app e ≡ None → ⊥ =
          All-contains (λ x. bears x.call ≡ true → task_of app x ≡ None → ⊥) (works w) e
          (all_made_start app histories seat (length (map passes_of all)) works made trace order same sound w low) among in
          let replied : is_foreign app e.reply ≡ false =
          All-contains (λ x. is_foreign app x.reply ≡ false) (works w) e
          (none_foreign_made app histories seat (length (map passes_of all)) works made trace order same sound w low) among in
          elim foreign as (λ _. ⊥) [
            | inl stray ↦ starts stray.0 stray.1
            | inr odd ↦ absurd (let both : false ≡ true = sym replied ∙ odd in cc)
          ]

      refused : (w : ℕ) → w < length (map passes_of all) → AllRefused app (w + 1) (slice_index_or (map passes_of all) w []) (works w)
      refused w low =
          elim (are_at w low).ended as (λ _. AllRefused app (w + 1) (slice_index_or (map passes_of all) w []) (works w)) [
            | inl done ↦ done
            | inr foreign ↦ absurd (none_foreign w low foreign)
          ]

      pub has_run : length all ≡ app.workers → IsWorkersRun app trace
      has_run many =
          workers_run app (map passes_of all) histories works ended made trace order same sound (λ w low. (are_at w low).own) refused (length-map all passes_of ∙ many)
