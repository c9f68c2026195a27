-- `frames::bytes::put` meets its contract: the last of the library's eight bytes of a number are its low bytes.
use mathlib.Core.Path.{◌≡◌, refl, sym, ap, ap₂, ◌∙◌}
use mathlib.Core.List.{List, ◌∷◌, append_assoc}
use Prim.Native.Nat.{ℕ, zero, suc, ◌+◌, ◌-◌, ◌*◌, ◌/◌, ◌%◌, ◌^◌, ◌≤◌}
use native.Mathlib.Nat.{pow-suc, zero-add, suc-add}
use native.Mathlib.Omega.{arith}
use lib.ListN.{length, take, drop}
use lib.Seq.{sets, sets-eq, drop-drop, take_all}
use borrow.Rule.Slice.PartMut.{put_mid}
use Rattle.std.specs.Int.{byte_at, bytes_high_first}
use Rattle.frames_rules.specs.Bytes.{bytes_of}
use Rattle.frames_rules.proofs.Numbers.{eight_more}
use Rattle.frames.proofs.bytes.put.Goals as goal

power : (k : ℕ) → 256 ^ k ≡ 2 ^ (8 * k)
power zero = refl
power (suc k) = rw (pow-suc 256 k, power k, eight_more k) (omega arith)

byte_is : (k v : ℕ) → byte_at k v ≡ v / 2 ^ (8 * k) % 256
byte_is zero v = omega arith
byte_is (suc k) v = ap (λ (x : ℕ). v / x % 256) (power (suc k))

all_bytes : (n v : ℕ) → bytes_high_first n v ≡ bytes_of n v
all_bytes zero v = refl
all_bytes (suc n) v = ap₂ (λ (b : ℕ) (t : List ℕ). b ∷ t) (byte_is n v) (all_bytes n v)

low_bytes : (k n v : ℕ) → drop k (bytes_high_first (k + n) v) ≡ bytes_of n v
low_bytes zero n v = rw (zero-add n) (all_bytes n v)
low_bytes (suc k) n v = rw (suc-add k n) (low_bytes k n v)

length_bytes : (n v : ℕ) → length (bytes_of n v) ≡ n
length_bytes zero v = refl
length_bytes (suc n) v = ap suc (length_bytes n v)

-- a list laid over as many places of another
stored : (out t : List ℕ) (at n : ℕ) → length t ≡ n → at + n ≤ length out → put_mid at (at + n - at) out t ≡ sets out at t
stored out t at n e h =
    let m : at + n - at ≡ n = omega arith in
    let r : at + length t ≡ at + n = omega arith in
    rw (m, drop-drop n at out, ← append_assoc) (sym (sets-eq t out at (omega arith) ∙ rw r))

pub returns : goal.returns
returns c =
    let a = c.args in
    let t = bytes_of a.n a.v in
    let l : length t ≡ a.n = length_bytes a.n a.v in
    let e : 8 - a.n + a.n ≡ 8 = omega arith in
    let d : drop (8 - a.n) c.to_be_bytes.result ≡ t = ap (drop (8 - a.n)) c.to_be_bytes.ensures ∙ (rw e at (low_bytes (8 - a.n) a.n a.v)) in
    let w : c.copy_from_slice.new.self ≡ t = c.copy_from_slice.ensures.after ∙ ap (take (8 - (8 - a.n))) d ∙ take_all (8 - (8 - a.n)) t (omega arith) in
    rw w (stored a.out.now t a.at a.n l (omega arith))
