-- What the calls of the stream leave: the lines of the definitions laid into the lent buffer, and the station or the run after them.
use Rattle.std.specs.Prelude.{◌≡◌, ℕ, ◌≤◌, List, length}
use Rattle.text_rules.specs.Put.{Put}
use Rattle.station_rules.specs.declared.state.Station.{Station}
use Rattle.stream_rules.specs.declared.run.Run.{Run}
use Rattle.stream_rules.specs.Step.{Obeyed}
use Rattle.stream_rules.specs.Run.{obeyed_now, lines_now, stepped, advanced, longest}

-- a call laid a text of at most k bytes into a buffer at a place, and answered the place after it
pub record Within (k : ℕ) (t : List ℕ) (at : ℕ) (before after : List ℕ) (r : ℕ) : Type 0 where
  pub put : Put t at before after r
  pub short : length t ≤ k

-- a call did what the definition says: the lines at a place of the buffer, of which there are at most 9,252 bytes, and the station afterwards
pub record Did (o : Obeyed) (at : ℕ) (before after : List ℕ) (st : Station) (end : ℕ) : Type 0 where
  pub station : st ≡ o.station
  pub lines : Within longest o.lines at before after end

-- a step did what the definition says of what stands at the run's place
pub record Stepped (s : List ℕ) (r : Run) (at : ℕ) (before after : List ℕ) (q : Run) (end : ℕ) : Type 0 where
  pub run : q ≡ stepped s r
  pub lines : Within longest (obeyed_now s r).lines at before after end

-- a run went one step on as defined, and the very bytes of the record's lines stand at a place of the buffer, as far as it has room for them
pub record Advanced (s : List ℕ) (r : Run) (at : ℕ) (before after : List ℕ) (q : Run) (end : ℕ) : Type 0 where
  pub run : q ≡ advanced s r
  pub lines : Within longest (lines_now s r) at before after end
