-- What the two sources of the classes say, held against the definitions (docs/SOURCES.md): of document 000 definitions (20) and
-- (22), example (24) and figure 3; of document 002 definitions 4.1 and 5.9, lemma 5.10 and theorems 5.18 and 5.19.
-- `document_000` and `document_002` of proofs/Sources.antt prove it. Assumes nothing.
use Rattle.std.specs.Prelude.{◌≡◌, ◌⊎◌, ◌↔◌, Bool, true, false, List, [], ◌∷◌, ◌++◌, map, ℕ, suc, ◌-◌, ◌≤◌, ◌<◌, length, get_or, take, drop}
use Rattle.base.specs.Lists.{all, has_row}
use Rattle.base.specs.Limits.{context_kind, seen_set_kind}
use Rattle.model.specs.Fields.{Class, class_of, all_below, File}
use Rattle.model.specs.Tables.{State, state, arc, empty_state, walk_at, walk_from, admits}
use Rattle.model.specs.Classes.{Word, f_of, TailsEqual, Contextual, Distinguishable}
use Rattle.model.specs.Quotients.{book_states}
use Rattle.model.specs.Calls.{table_fault, table_states}
use Rattle.model.specs.Claims.{all_among}

-- the words that a table admits
abbrev pub AdmittedBy : List State → Word → Type 0
AdmittedBy states r = admits states r ≡ true

-- the words of a list
abbrev pub Listed : List Word → Word → Type 0
Listed rows r = has_row r rows ≡ true

-- ---- document 000

-- definition (20), a distinguishing function: words that it does not tell apart stay so with any names more
pub record Distinguishing (f : Word → List ℕ) : Type 0 where
  pub same_longer : (u w z : Word) → f w ≡ f z → f (w ++ u) ≡ f (z ++ u)

-- definition (22) as printed: where f of w and z is equal and w u and w v are in l, z u and z v are both in l or both not
pub record Distinguishable22 (c : Class) (l : Word → Type 0) : Type 0 where
  pub both_or_neither :
      (u v w z : Word) → f_of c w ≡ f_of c z → l (w ++ u) → l (w ++ v) → l (z ++ u) ↔ l (z ++ v)

-- the class of the seen set, the source's Ter
abbrev pub seen_set_class : Class
seen_set_class = class_of seen_set_kind 0 0

-- the words of example (24): a, aaa, ab, aababac, with 0, 1, 2 for a, b, c
abbrev pub words_24 : List Word
words_24 =
    (0 ∷ [])
    ∷ ((0 ∷ (0 ∷ (0 ∷ [])))
    ∷ ((0 ∷ (1 ∷ []))
    ∷ ((0 ∷ (0 ∷ (1 ∷ (0 ∷ (1 ∷ (0 ∷ (2 ∷ [])))))))
    ∷ [])))

-- their Ter as printed: {a}, {a}, {a, b}, {a, b, c}
abbrev pub sets_24 : List (List ℕ)
sets_24 = (0 ∷ []) ∷ ((0 ∷ []) ∷ ((0 ∷ (1 ∷ [])) ∷ ((0 ∷ (1 ∷ (2 ∷ []))) ∷ [])))

-- the automaton of figure 3, with 0 for a: a leads from q0 to q1, from q1 to q2 and from q2 to q2, and q2 accepts
abbrev pub figure_3 : List State
figure_3 = state false (arc 0 1 ∷ []) ∷ (state false (arc 0 2 ∷ []) ∷ (state true (arc 0 2 ∷ []) ∷ []))

-- what document 000 says
pub record Document000 : Type 1 where
  -- f is a distinguishing function
  pub definition_20 : (c : Class) → Distinguishing (f_of c)
  -- definition (22) as printed says the same as ours, of any set of words
  pub definition_22 : (c : Class) (l : Word → Type 0) → Distinguishable c l ↔ Distinguishable22 c l
  -- example (24)
  pub example_24 : map (f_of seen_set_class) words_24 ≡ sets_24
  -- the set of words of figure 3 is not Ter-distinguishable
  pub figure_3_not : Distinguishable seen_set_class (AdmittedBy figure_3) → ⊥

-- ---- document 002, definition 5.9

-- definition 5.9 as printed, for i from 1 on, with a for a_1 .. a_k: drop (i - 1) a is a_i .. a_k, and v1 and v2 are any words
-- before that
pub record Contextual59 (k h : ℕ) (l : Word → Type 0) : Type 0 where
  pub equal_tails :
      (u1 u2 a w1 w2 v1 v2 : Word) (i : ℕ) → length a ≡ k → 1 ≤ i → h ≤ i → i ≤ k →
      l (u1 ++ (a ++ w1)) → l (u2 ++ (a ++ w2)) → l (v1 ++ (drop (i - 1) a ++ w1)) → l (v2 ++ (drop (i - 1) a ++ w2)) →
      TailsEqual l (v1 ++ take 1 (drop (i - 1) a)) (v2 ++ take 1 (drop (i - 1) a))

-- the source's 2-contextual automaton of Entry, figure 5.5 (examples/sources/entry_2_2.listing), with 0, 1, 2, 3, 4 for Example,
-- Headword, Inflection, Parallel_form, Preferred_form
abbrev pub figure_5_5 : List State
figure_5_5 =
    state false (arc 1 1 ∷ [])
    ∷ (state false (arc 2 2 ∷ (arc 3 3 ∷ (arc 4 4 ∷ [])))
    ∷ (state false (arc 0 5 ∷ (arc 3 6 ∷ (arc 4 7 ∷ [])))
    ∷ (state false (arc 0 8 ∷ [])
    ∷ (state false (arc 0 9 ∷ [])
    ∷ (state false (arc 0 10 ∷ [])
    ∷ (state false (arc 0 8 ∷ [])
    ∷ (state false (arc 0 9 ∷ [])
    ∷ (state false (arc 0 10 ∷ [])
    ∷ (state true (arc 0 10 ∷ [])
    ∷ (state true (arc 0 10 ∷ [])
    ∷ []))))))))))

-- ---- document 002, lemma 5.10

-- the walk from state p takes all names of the word and ends in state q
pub record Reaches (states : List State) (p : ℕ) (w : Word) (q : ℕ) : Type 0 where
  pub walked : walk_from states p 0 w ≡ walk_at q (length w)

-- a word is admitted from a state: its walk from there takes all names and ends in an accepting state
pub record AdmittedFrom (states : List State) (p : ℕ) (w : Word) : Type 0 where
  pub end : ℕ
  pub way : Reaches states p w end
  pub accepting : (get_or states end empty_state).accepts ≡ true

-- two states have the same tails: the same words are admitted from both
pub record SameTails (states : List State) (p q : ℕ) : Type 0 where
  pub tails : (v : Word) → AdmittedFrom states p v ↔ AdmittedFrom states q v

-- the condition of lemma 5.10 on an automaton: two walks by the same k names are in one state after the i-th name, for each i
-- from h to k
pub record ContextualStates (k h : ℕ) (states : List State) : Type 0 where
  pub one_state :
      (p q p-end q-end p-after q-after i : ℕ) (a : Word) → p < length states → q < length states →
      length a ≡ k → h ≤ i → i ≤ k → Reaches states p a p-end → Reaches states q a q-end →
      Reaches states p (take i a) p-after → Reaches states q (take i a) q-after → p-after ≡ q-after

-- the same up to equal tails: where words that begin with the same k names are admitted from p and from q, the states after
-- the i-th of these names have the same tails, for each i from h to k
pub record ContextualTails (k h : ℕ) (states : List State) : Type 0 where
  pub same_tails :
      (p q p-after q-after i : ℕ) (a v w : Word) → p < length states → q < length states →
      length a ≡ k → h ≤ i → i ≤ k → AdmittedFrom states p (a ++ v) → AdmittedFrom states q (a ++ w) →
      Reaches states p (take i a) p-after → Reaches states q (take i a) q-after → SameTails states p-after q-after

-- every state is reached from the start by some word
abbrev pub AllReached : List State → Type 0
AllReached states = (q : ℕ) → q < length states → (w : Word) × Reaches states 0 w q

-- the canonical automaton of the set of words that it admits: every state is reached, each word that can be walked begins an
-- admitted one, and states with the same tails are one
pub record Canonical (states : List State) : Type 0 where
  pub reached : AllReached states
  pub live : (w : Word) (q : ℕ) → Reaches states 0 w q → (v : Word) × AdmittedFrom states q v
  pub one_each : (p q : ℕ) → p < length states → q < length states → SameTails states p q → p ≡ q

-- the words that a test lets pass, a set of words that can be decided
abbrev pub Passing : (Word → Bool) → Word → Type 0
Passing test r = test r ≡ true

-- they are over the names below m
abbrev pub OverNames : ℕ → (Word → Bool) → Type 0
OverNames m test = (r : Word) → test r ≡ true → all_below m r ≡ true

-- words that tell such a set: the table of every book of the class whose rows are words of the set, these among them, admits exactly
-- the set
pub record Sample (k h : ℕ) (test : Word → Bool) : Type 0 where
  pub rows : List Word
  pub in_set : all test rows ≡ true
  pub tells :
      (f : File) → f.class_is ≡ class_of context_kind k h → all_among rows f.items ≡ true → all test f.items ≡ true →
      (r : Word) → admits (book_states f) r ≡ test r

-- ---- document 002, theorems 5.18 and 5.19

-- definition 5.3, k-reversible: the same k names, and after them the same names, make the tails after the k names equal
pub record Reversible (k : ℕ) (l : Word → Type 0) : Type 0 where
  pub equal_tails :
      (u1 u2 v w : Word) → length v ≡ k → l (u1 ++ (v ++ w)) → l (u2 ++ (v ++ w)) → TailsEqual l (u1 ++ v) (u2 ++ v)

-- definition 5.4, k-contextual: the same k names make the tails after them equal
pub record ContextualAfter (k : ℕ) (l : Word → Type 0) : Type 0 where
  pub equal_tails :
      (u1 u2 v w1 w2 : Word) → length v ≡ k → l (u1 ++ (v ++ w1)) → l (u2 ++ (v ++ w2)) → TailsEqual l (u1 ++ v) (u2 ++ v)

-- L1 = {abcd, ebcd}, with 0, 1, 2, 3, 4, 5 for a, b, c, d, e, g
abbrev pub l1 : List Word
l1 = (0 ∷ (1 ∷ (2 ∷ (3 ∷ [])))) ∷ ((4 ∷ (1 ∷ (2 ∷ (3 ∷ [])))) ∷ [])

-- L2 = {abg}
abbrev pub l2 : List Word
l2 = (0 ∷ (1 ∷ (5 ∷ []))) ∷ []

-- what document 002 says
pub record Document002 : Type 1 where
  -- by definition 5.9 as printed the set of words of figure 5.5 would not be (2,2)-contextual
  pub printed_5_9_not : Contextual59 2 2 (AdmittedBy figure_5_5) → ⊥
  -- lemma 5.10, for sets of words over the names below m that a test decides, as regular ones are: such a set is
  -- (k,h)-contextual exactly if some table that meets the condition admits it
  pub lemma_5_10 :
      (k h m : ℕ) (test : Word → Bool) → h ≤ k → OverNames m test →
      Contextual k h (Passing test)
      ↔ ((states : List State) × ContextualStates k h states × ((r : Word) → admits states r ≡ test r))
  -- from the automaton to the set of words, for every table
  pub lemma_5_10_if : (k h : ℕ) (states : List State) → ContextualStates k h states → Contextual k h (AdmittedBy states)
  -- the tables of books of contexts are such automata
  pub lemma_5_10_built :
      (f : File) → f.class_is.kind ≡ context_kind → ContextualStates f.class_is.first f.class_is.second (book_states f)
  -- both directions for canonical automata
  pub lemma_5_10_canonical :
      (k h : ℕ) (states : List State) → Canonical states →
      Contextual k h (AdmittedBy states) ↔ ContextualStates k h states
  -- and, up to states with the same tails, for every table whose states are all reached
  pub lemma_5_10_tails :
      (k h : ℕ) (states : List State) → AllReached states →
      Contextual k h (AdmittedBy states) ↔ ContextualTails k h states
  -- as the states of every accepted table are
  pub accepted_reached : (s work : List ℕ) → table_fault s work ≡ 0 → AllReached (table_states s)
  -- definition 4.1, identification in the limit: finitely many words of such a set tell it
  pub identified :
      (k h m : ℕ) (test : Word → Bool) → h ≤ k → OverNames m test → Contextual k h (Passing test) → Sample k h test
  -- theorem 5.18: what is k-contextual is k-reversible; so is what is (k,h)-contextual; k-contextual is (k,k)-contextual, and
  -- back; what is (k,h)-contextual is (k,h+1)-contextual
  pub theorem_5_18_1 : (k : ℕ) (l : Word → Type 0) → ContextualAfter k l → Reversible k l
  pub theorem_5_18_2 : (k h : ℕ) (l : Word → Type 0) → h ≤ k → Contextual k h l → Reversible k l
  pub theorem_5_18_3 : (k : ℕ) (l : Word → Type 0) → ContextualAfter k l ↔ Contextual k k l
  pub theorem_5_18_4 : (k h : ℕ) (l : Word → Type 0) → Contextual k h l → Contextual k (suc h) l
  -- theorem 5.19, 1: L1 and L2 are (2,1)-contextual, and their union is not
  pub l1_contextual : Contextual 2 1 (Listed l1)
  pub l2_contextual : Contextual 2 1 (Listed l2)
  pub union_not : Contextual 2 1 (λ (r : Word). Listed l1 r ⊎ Listed l2 r) → ⊥
  -- theorem 5.19, 2: the intersection of two (k,h)-contextual sets is (k,h)-contextual
  pub intersection :
      (k h : ℕ) (l m : Word → Type 0) → Contextual k h l → Contextual k h m → Contextual k h (λ (r : Word). l r × m r)
