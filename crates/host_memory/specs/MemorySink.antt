-- A sink in memory: it takes as many bytes as it has room for, and fails the puts that are listed.
use Rattle.std.specs.Prelude.{ℕ, ◌-◌, ◌++◌, ◌||◌, Bool, List, [], length, nat_lt, take, Some, if◌then◌else◌}
use Rattle.host_memory.specs.Failures.{counted, is_listed}
use Rattle.host_trait.specs.Sink.{SinkState}

pub record MemorySinkState : Type 0 where
  -- what was put
  pub bytes : List ℕ
  -- how many bytes it still takes
  pub room : ℕ
  -- the numbers of the puts that fail
  pub failing : List ℕ
  -- the number of the next put
  pub next : ℕ
  -- how many puts have failed
  pub faults : ℕ

-- as a sink it tells what was put
abbrev pub sink_of : MemorySinkState → SinkState
sink_of sink = record { contents = Some sink.bytes; faults = sink.faults }

-- a put fails where it is listed, and where the text is longer than the room
abbrev pub put_fails : MemorySinkState → List ℕ → Bool
put_fails sink text = is_listed sink.failing sink.next || nat_lt sink.room (length text)

-- a listed put appends nothing, and any other as much as there is room for
abbrev pub appended : MemorySinkState → List ℕ → List ℕ
appended sink text = if is_listed sink.failing sink.next then [] else take sink.room text

-- a put takes up the room of what it appends
abbrev pub after_put : MemorySinkState → List ℕ → MemorySinkState
after_put sink text = record {
  bytes = sink.bytes ++ appended sink text;
  room = sink.room - length (appended sink text);
  failing = sink.failing;
  next = counted sink.next;
  faults = if put_fails sink text then counted sink.faults else sink.faults;
}
