-- State fields' bytes: what is written for a state is read as that state, has one byte and three for each arc, and passes the
-- test where arcs ascend; and bytes that pass the test are written again as they stood. Assumes nothing.
use mathlib.Core.Path.{◌≡◌, refl, ap, ap₂}
use mathlib.Core.Bool.{Bool, true, false, ◌&&◌, false≢true, and-eq-true_iff}
use mathlib.Core.List.Memᴰ.{head as here}
use mathlib.Core.List.Memᴰ.{tail as there}
use mathlib.Core.List.{List, [], ◌∷◌, map, flat_map, Memᴰ as In}
use Prim.Native.Nat.{ℕ, zero, suc, ◌+◌, ◌*◌, ◌/◌, ◌%◌, ◌≤◌, ◌<◌}
use native.Mathlib.Omega.{arith}
use lib.Dec.{eqb, ltb, leb}
use lib.ListN.{length}
use borrow.Author.Tests.{lt-ltb, le-leb, leb-true}
use Rattle.base.specs.Limits.{when}
use Rattle.model.specs.Fields.{arcs_ok, state_ok}
use Rattle.model.specs.Tables.{Arc, arc, State, state, arc_bytes, state_body, arcs_in, state_in, states_in, Ascending}

-- a number is its high byte and its low byte
pub two_bytes_lem : (n : ℕ) → 256 * (n / 256) + n % 256 ≡ n
two_bytes_lem n = omega arith

pub arc-bytes_length : (arcs : List Arc) → length (arc_bytes arcs) ≡ 3 * length arcs
unfolding arc_bytes flat_map
arc-bytes_length [] = refl
arc-bytes_length (a ∷ arcs) = omega (arith, arc-bytes_length arcs)

pub body_length : (s : State) → length (state_body s) ≡ suc (3 * length s.arcs)
unfolding state_body
body_length s = ap suc (arc-bytes_length s.arcs)

-- written arcs are read as they were, then states one by one
arcs_read : (f : ℕ) (arcs : List Arc) → length (arc_bytes arcs) ≤ f → arcs_in f (arc_bytes arcs) ≡ arcs
unfolding arc_bytes flat_map arcs_in
arcs_read zero [] h = refl
arcs_read (suc f) [] h = refl
arcs_read zero (a ∷ arcs) h = let z : ⊥ = omega arith in absurd z
arcs_read (suc f) (a ∷ arcs) h =
    ap₂ (λ (t : ℕ) (more : List Arc). arc a.name t ∷ more) (two_bytes_lem a.to) (arcs_read f arcs (omega arith))

pub accepts_read : (t : Bool) → eqb (when t 1) 1 ≡ t
accepts_read true = refl
accepts_read false = refl

pub state-read : (s : State) → state_in (state_body s) ≡ s
unfolding state_body state_in
state-read s =
    ap₂ (λ (t : Bool) (more : List Arc). state t more) (accepts_read s.accepts)
    (arcs_read (length (arc_bytes s.arcs)) s.arcs (omega arith))

pub states_read_back : (states : List State) → states_in (map state_body states) ≡ states
unfolding states_in
states_read_back [] = refl
states_read_back (s ∷ states) = ap₂ (λ (x : State) (more : List State). x ∷ more) (state-read s) (states_read_back states)

-- ascending arcs with names below n pass the test
arcs_ok_lem :
    (f n next : ℕ) (arcs : List Arc) → Ascending next arcs → ((a : Arc) → In a arcs → a.name < n) →
    arcs_ok f n next (arc_bytes arcs) ≡ true
unfolding arc_bytes flat_map arcs_ok
arcs_ok_lem zero n next [] up below = refl
arcs_ok_lem (suc f) n next [] up below = refl
arcs_ok_lem zero n next (a ∷ arcs) up below = refl
arcs_ok_lem (suc f) n next (a ∷ arcs) up below =
    rw (
      le-leb 2 (suc (suc (length (arc_bytes arcs)))) (omega arith),
      lt-ltb a.name n (below a (here refl)),
      le-leb next a.name up.0,
      arcs_ok_lem f n (suc a.name) arcs up.1 (λ b m. below b (there m)),
    )

accepts_ok : (t : Bool) → leb (when t 1) 1 ≡ true
accepts_ok true = refl
accepts_ok false = refl

-- the bytes of ascending arcs with names below n pass the test
pub body_ok :
    (n : ℕ) (s : State) → Ascending 0 s.arcs → ((a : Arc) → In a s.arcs → a.name < n) → state_ok n (state_body s) ≡ true
unfolding state_body state_ok
body_ok n s up below = rw (accepts_ok s.accepts, arcs_ok_lem (length (arc_bytes s.arcs)) n 0 s.arcs up below)

-- the numbers of the list are bytes
abbrev pub Bytes : List ℕ → Type 0
Bytes [] = Unit {0}
Bytes (x ∷ xs) = (x < 256) × Bytes xs

-- arcs that pass the test are written as they stood
arcs_rewritten : (f n next : ℕ) (s : List ℕ) → length s ≤ f → Bytes s → arcs_ok f n next s ≡ true → arc_bytes (arcs_in f s) ≡ s
unfolding arc_bytes flat_map arcs_ok arcs_in
arcs_rewritten zero n next [] h bytes ok = refl
arcs_rewritten zero n next (a ∷ s) h bytes ok = let z : ⊥ = omega arith in absurd z
arcs_rewritten (suc f) n next [] h bytes ok = refl
arcs_rewritten (suc f) n next (a ∷ []) h bytes ok = absurd (false≢true ok)
arcs_rewritten (suc f) n next (a ∷ (x ∷ [])) h bytes ok = absurd (false≢true ok)
arcs_rewritten (suc f) n next (a ∷ (x ∷ (y ∷ s))) h bytes ok =
    let p = (and-eq-true_iff (leb 2 (length (x ∷ (y ∷ s)))) ((ltb a n && leb next a) && arcs_ok f n (suc a) s)).0 ok in
    let q = (and-eq-true_iff (ltb a n && leb next a) (arcs_ok f n (suc a) s)).0 p.1 in
    let more = arcs_rewritten f n (suc a) s (omega arith) bytes.1.1.1 q.1 in
    let low : y < 256 = bytes.1.1.0 in
    let high_byte : (256 * x + y) / 256 ≡ x = omega arith in
    let low_byte : (256 * x + y) % 256 ≡ y = omega arith in
    rw (high_byte, low_byte, more)

accepts_rewritten : (b : ℕ) → b ≤ 1 → when (eqb b 1) 1 ≡ b
accepts_rewritten zero h = refl
accepts_rewritten (suc zero) h = refl
accepts_rewritten (suc (suc b)) h = let z : ⊥ = omega arith in absurd z

-- bytes that pass the test are what is written for the state that they mean
pub body_rewritten : (n : ℕ) (body : List ℕ) → Bytes body → state_ok n body ≡ true → state_body (state_in body) ≡ body
unfolding state_body state_in state_ok
body_rewritten n [] bytes ok = absurd (false≢true ok)
body_rewritten n (b ∷ s) bytes ok =
    let p = (and-eq-true_iff (leb b 1) (arcs_ok (length s) n 0 s)).0 ok in
    ap₂ (λ (x : ℕ) (xs : List ℕ). x ∷ xs) (accepts_rewritten b (leb-true b 1 p.0))
    (arcs_rewritten (length s) n 0 s (omega arith) bytes.1 p.1)
