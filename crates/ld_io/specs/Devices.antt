-- What a device is seen as, and which answers of its calls count as an end or as a failure.
use Rattle.std.specs.Prelude.{ℕ, List, Bool, true, false, ◌&&◌, ◌≡◌, nat_eq, nat_lt, length, Result, Ok, Err}

-- a reader or writer, and what its device keeps of the calls so far
pub record Device (T : Type 0) : Type 0 where
  pub inner : T
  -- some read failed
  pub read_failed : Bool
  -- some read into a buffer with room answered 0
  pub ended : Bool
  -- some write or flush failed
  pub write_failed : Bool
  -- the last call of `write` or `flush` was a flush that answered Ok
  pub flushed : Bool

-- no call failed, the end is not found yet, and the last call was no flush
pub record IsFresh {T : Type 0} (device : Device T) : Type 0 where
  pub read_well : device.read_failed ≡ false
  pub open_yet : device.ended ≡ false
  pub wrote_well : device.write_failed ≡ false
  pub unflushed : device.flushed ≡ false

-- a read into a buffer with room answered 0
abbrev pub finds_end : {E : Type 0} → Result ℕ E → List ℕ → Bool
finds_end (Ok n) buffer = nat_eq n 0 && nat_lt 0 (length buffer)
finds_end (Err _) buffer = false

-- a write failed: it answered an error, or took none of a buffer that has some byte
abbrev pub fails_to_write : {E : Type 0} → Result ℕ E → List ℕ → Bool
fails_to_write (Ok n) buffer = nat_eq n 0 && nat_lt 0 (length buffer)
fails_to_write (Err _) buffer = true
