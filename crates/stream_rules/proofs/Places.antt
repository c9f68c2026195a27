-- The run's places are those of a reader that goes on: after k records the run is where the reader is that went on k times, and finds
-- what that reader finds.
use Prim.Native.Nat.{ℕ, zero, suc}
use mathlib.Core.Path.{◌≡◌, refl, sym, ap, ap₂, ◌∙◌}
use mathlib.Core.Bool.{Bool, true, false, true≢false}
use mathlib.Core.List.{List}
use denote.Ref.{Bor}
use Rattle.lists.specs.Lists.{pick}
use Rattle.reader_rules.specs.Records.{record_at}
use Rattle.reader_rules.specs.Readers.{reader_at, found_by, moved_on, moved_by}
use Rattle.reader_rules.proofs.Readers.{stream_kept}
use Rattle.stream_rules.specs.declared.run.Run.{Run}
use Rattle.stream_rules.specs.Run.{begun, stepped, advanced, run_after}
use Rattle.stream_rules.proofs.Runs.{ends_there, stays_ended}

module _ (s : Bor (List ℕ)) where
  -- a reader of the stream where the run is, gone on k times
  abbrev reader : Run → ℕ → ℕ
  reader r k = (moved_by k (reader_at s r.at)).place

  -- where a run has ended, its reader stays
  abbrev Rests : Run → Type 0
  Rests r = r.more ≡ false → (moved_on (reader_at s r.at)).place ≡ r.at

  -- a step ends where the reader goes
  step : (r : Run) → Rests r → (advanced s.now r).at ≡ (moved_on (reader_at s r.at)).place
  unfolding advanced stepped
  step r h = go r.more refl
    where
      go : (b : Bool) → r.more ≡ b → (pick b (stepped s.now r) r).at ≡ (moved_on (reader_at s r.at)).place
      go true e = refl
      go false e = sym (h e)

  rests_next : (r : Run) → Rests r → Rests (advanced s.now r)
  rests_next r h e = go r.more refl
    where
      stays : (advanced s.now r).at ≡ r.at → (moved_on (reader_at s (advanced s.now r).at)).place ≡ (advanced s.now r).at
      stays q = ap (λ (at : ℕ). (moved_on (reader_at s at)).place) q ∙ sym (step r h)

      go : (b : Bool) → r.more ≡ b → (moved_on (reader_at s (advanced s.now r).at)).place ≡ (advanced s.now r).at
      go true m = stays (ends_there s.now r m e)
      go false m = stays (ap (λ (q : Run). q.at) (stays_ended s.now r m))

  after_steps : (k : ℕ) (r : Run) → Rests r → (run_after k s.now r).at ≡ reader r k
  unfolding run_after
  after_steps zero r h = refl
  after_steps (suc k) r h = after_steps k (advanced s.now r) (rests_next r h) ∙ ap (λ (at : ℕ). (moved_by k (reader_at s at)).place) (step r h)

  -- after k records the run is at the place of a reader, made at the start of the stream, that went on k times
  pub at_the_reader : (k : ℕ) → (run_after k s.now begun).at ≡ (moved_by k (reader_at s 0)).place
  unfolding begun
  at_the_reader k = after_steps k begun (λ e. absurd (true≢false e))

  -- and what stands there is what that reader finds
  pub found_by_the_reader : (k : ℕ) → record_at s.now (run_after k s.now begun).at ≡ found_by (moved_by k (reader_at s 0))
  found_by_the_reader k = ap₂ (λ (t : Bor (List ℕ)) (at : ℕ). record_at t.now at) (sym (stream_kept k (reader_at s 0))) (at_the_reader k)
