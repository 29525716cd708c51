-- What each answer of the functions of pieces says: reading on over what stands before a tag, an end tag, a name, and the end of a tag that
-- begins an element. Assumes nothing.
use Rattle.std.proofs.Common.{Result, Ok, Err}
use mathlib.Core.Path.{◌≡◌, refl, sym, ap, ◌∙◌, subst}
use mathlib.Core.Logic.{⊎_elim}
use mathlib.Core.Bool.{Bool, true, false, ◌||◌, cond, true≢false, false≢true}
use mathlib.Core.List.{List, [], ◌∷◌, ◌++◌}
use Prim.Native.Nat.{ℕ, zero, suc, ◌+◌, ◌-◌, ◌≤◌, ◌<◌}
use native.Mathlib.Omega.{arith}
use lib.Dec.{eqb, eqb-suc-zero}
use lib.ListN.{length, get_or, drop}
use borrow.Author.Tests.{eq-eqb, ne_eqb, not-true}
use Rattle.base.specs.Limits.{bad_plan}
use Rattle.base.proofs.Tests.{le_or_lt, false_or}
use Rattle.written_plans.specs.Written.{is_white, is_text, less, slash, greater, ampersand}
use Rattle.written_plans.specs.Reading.{Place, before, inside, opened, naming, named, emptied, closing, after, leave}
use Rattle.written_plans.specs.Reading.{stop, go, after_name, after_end, end_begins, step, met, begins_name, refused_at, ended}
use Rattle.written_plans.proofs.WrittenRuns.{slash-ends}
use Rattle.plan_reading.specs.Scanning.{part, Skipped, NameEnds, Agrees}
use Rattle.plan_reading.specs.Pieces.{open_at, open_name, open_names, between, place_of, reads, ReadsOn, Stops, Stacked, NameBehind}
use Rattle.plan_reading.specs.Pieces.{ByteAt, BeforeTag, follows_name, Met, PieceFrom, AfterLess, NameFrom, EndFrom, CloseFrom}
use Rattle.plan_reading.specs.declared.opens.Open.{Open}
use Rattle.plan_reading.specs.declared.pieces.Reached.{Reached}
use Rattle.plan_reading.specs.declared.pieces.BadByte.{BadByte}
use Rattle.plan_reading.specs.declared.pieces.Piece.{Piece}
use Rattle.plan_reading.specs.declared.pieces.Piece.TheVariants as piece
use Rattle.plan_reading.specs.declared.pieces.Close.TheVariants as close
use Rattle.plan_reading.proofs.ScanLaws.{part_none}
use Rattle.plan_reading.proofs.StepLaws.{reads-stop, reads-bad, reads_go}
use Rattle.plan_reading.proofs.RunLaws.{skipped_reads, name-read, part-cons, agrees_reads}

-- ---- one byte

-- a byte that is read, where no tag is met
read_byte : (s : List ℕ) (q t : Place) (i : ℕ) → i < length s → step q (get_or s i 0) ≡ go t
    → ((b : ℕ) (rest : List ℕ) → met q b rest ≡ []) → ReadsOn s q i t (i + 1)
read_byte s q t i h e none judge =
    let next : suc i ≡ i + 1 = omega arith in
    reads_go judge s q i h t e (none (get_or s i 0) (drop (suc i) s)) ∙ ap (reads judge s t) next

-- after a name: none of the bytes that may follow it
no_follow : (around : List (List ℕ)) (n : List ℕ) (b : ℕ) → follows_name b ≡ false → after_name around n b ≡ stop
unfolding after_name
no_follow around n b e =
    let one = false_or (is_white b) (eqb b slash || eqb b greater) e in
    let two = false_or (eqb b slash) (eqb b greater) one.1 in
    rw (one.0, two.0, two.1)

-- ---- the end of a tag that begins an element

module _ (s : List ℕ) (at next : ℕ) (white : Skipped is_white s at next) where
  -- past white space
  past_white : (around : List (List ℕ)) (n : List ℕ) → ReadsOn s (named around n) at (named around n) next
  unfolding step met after_name
  past_white around n = skipped_reads is_white s (named around n) (λ b e. rw (e)) (λ b rest. refl) at next white

  -- `>` follows
  pub end_full : (e : ℕ) → ByteAt s next greater (Ok e) → CloseFrom s at (Ok (close.Full e))
  unfolding step met after_name
  end_full e there =
      let onward : at ≤ next = white.onward in
      subst (λ (z : ℕ). CloseFrom s at (Ok (close.Full z))) (sym there.0) (
        λ around n judge.
            past_white around n judge
            ∙ read_byte s (named around n) (inside n around) next there.1 (rw (there.2)) (λ b rest. refl) judge,
        omega arith,
        omega (arith, there.1),
      )

  -- neither `>` nor `/`
  pub end_bad : (bad : BadByte) → (next < length s → get_or s next 0 ≡ slash → ⊥) → ByteAt s next greater (Err bad)
      → CloseFrom s at (Err bad)
  unfolding step ended after_name
  end_bad bad other there around n judge =
      past_white around n judge
      ∙ reads-bad judge s (named around n) next refl
      (λ h.
      rw (white.stopped h, ne_eqb (get_or s next 0) greater (there.1 h), ne_eqb (get_or s next 0) slash (other h)))
      ∙ ap (refused_at bad_plan) (sym there.0)

  module _ (h : next < length s) (e : get_or s next 0 ≡ slash) where
    -- past `/`
    past_slash : (around : List (List ℕ)) (n : List ℕ) → ReadsOn s (named around n) at (emptied around) (next + 1)
    unfolding step met after_name
    past_slash around n judge =
        past_white around n judge ∙ read_byte s (named around n) (emptied around) next h (rw (e)) (λ b rest. refl) judge

    -- no `>` follows it
    pub empty_bad : (bad : BadByte) → ByteAt s (next + 1) greater (Err bad) → CloseFrom s at (Err bad)
    unfolding step ended
    empty_bad bad there around n judge =
        past_slash around n judge
        ∙ reads-bad judge s (emptied around) (next + 1) refl (λ g. rw (ne_eqb (get_or s (next + 1) 0) greater (there.1 g)))
        ∙ ap (refused_at bad_plan) (sym there.0)

    -- `>` follows it
    pub end_empty : (last : ℕ) → ByteAt s (next + 1) greater (Ok last) → CloseFrom s at (Ok (close.Empty last))
    unfolding step met
    end_empty last there =
        let onward : at ≤ next = white.onward in
        subst (λ (z : ℕ). CloseFrom s at (Ok (close.Empty z))) (sym there.0) (
          λ around n judge.
              past_slash around n judge
              ∙ read_byte s (emptied around) (leave around) (next + 1) there.1 (rw (there.2)) (λ b rest. refl) judge,
          omega arith,
          omega (arith, there.1),
        )

-- ---- the name of a tag that begins an element

module _ (s : List ℕ) (at end : ℕ) (name : NameEnds s at end) where
  -- there is none, or none of the bytes that may follow it
  pub name_bad : at ≤ length s → (at < end → end < length s → follows_name (get_or s end 0) ≡ false)
      → NameFrom s at (Err (record { at = end }))
  unfolding step ended
  name_bad within other around no_end judge = ⊎_elim nothing something (le_or_lt end at)
    where
      nothing : end ≤ at → reads judge s (opened around) at ≡ refused_at bad_plan end
      nothing h =
          let onward : at ≤ end = name.onward in
          let same : end ≡ at = omega arith in
          let none : part s at end ≡ [] = ap (part s at) same ∙ part_none s at in
          let here : get_or s end 0 ≡ get_or s at 0 = ap (λ (i : ℕ). get_or s i 0) same in
          let begins : at < length s → begins_name (get_or s at 0 ∷ []) ≡ false =
          λ g.
          let stopped : begins_name (part s at end ++ (get_or s end 0 ∷ [])) ≡ false = name.stopped (omega arith) in
          let same_byte = subst (λ z. begins_name (part s at end ++ (z ∷ [])) ≡ false) here stopped in
          subst (λ z. begins_name (z ++ (get_or s at 0 ∷ [])) ≡ false) none same_byte in
          reads-bad judge s (opened around) at refl (λ g. rw (begins g, no_end g)) ∙ ap (refused_at bad_plan) (sym same)

      something : at < end → reads judge s (opened around) at ≡ refused_at bad_plan end
      something some =
          let n = part s at end in
          name-read s at end around name some judge
          ∙ reads-bad judge s (naming around n) end refl
          (λ g. rw (name.stopped g, name.whole some, no_follow around n (get_or s end 0) (other some g)))

  -- a byte follows it that may
  pub name_found : at < end → end < length s → follows_name (get_or s end 0) ≡ true → NameFrom s at (Ok (piece.Name at end))
  name_found some h e = (
    refl,
    record { some = some; within = h; allowed = name.whole some; ends = name.stopped h; follows = e },
    λ around. name-read s at end around name some,
  )

-- ---- where reading has come

-- what holds of a place holds further on
pub stacked_on : (s : List ℕ) (opens : List Open) (depth : ℕ) (r : Reached) (at : ℕ) → Stacked s opens depth r → r.at ≤ at
    → at ≤ length s → Stacked s opens depth (record { at = at; tags = r.tags })
stacked_on s opens depth r at sound h within =
    record {
      within = within;
      shallow = sound.shallow;
      room = sound.room;
      forward = sound.forward;
      behind = λ d g. omega (arith, sound.behind d g);
      begun = sound.begun;
      few = omega (arith, sound.few);
    }

-- and where one element fewer is open
stacked_out : (s : List ℕ) (opens : List Open) (depth : ℕ) (r : Reached) → Stacked s opens depth r → Stacked s opens (depth - 1) r
stacked_out s opens depth r sound =
    record {
      within = sound.within;
      shallow = omega (arith, sound.shallow);
      room = sound.room;
      forward = λ d g. sound.forward d (omega arith);
      behind = λ d g. sound.behind d (omega arith);
      begun = omega (arith, sound.begun);
      few = sound.few;
    }

-- the innermost element's name stands before every later offset
pub name_behind : (s : List ℕ) (opens : List Open) (depth : ℕ) (r : Reached) (element : Open) (at : ℕ) → Stacked s opens depth r
    → 0 < depth → element ≡ open_at opens (depth - 1) → r.at ≤ at → NameBehind element at
name_behind s opens depth r element at sound deep is h =
    subst (λ (o : Open). NameBehind o at) (sym is)
    (record {
      forward = sound.forward (depth - 1) (omega arith);
      behind = omega (arith, sound.behind (depth - 1) (omega arith));
    })

-- the place after an element, once a tag began one
pub leave-between : (names : List (List ℕ)) (tags : ℕ) → 0 < tags → leave names ≡ between names tags
leave-between [] tags h =
    let some : eqb tags 0 ≡ false = ne_eqb tags 0 (λ z. let w : ⊥ = omega arith in w) in rw (some)
leave-between (n ∷ names) tags h = refl

-- what a piece says, read on to from an earlier place
pub piece_after : (s : List ℕ) (opens : List Open) (depth : ℕ) (q : Place) (i tags : ℕ) (t : Place) (j : ℕ) → ReadsOn s q i t j → i ≤ j
    → (p : Result Piece BadByte) → PieceFrom s opens depth t j tags p → PieceFrom s opens depth q i tags p
piece_after s opens depth q i tags t j first h (Ok (piece.Rest e)) past =
    record { reads_on = λ judge. first judge ∙ past.reads_on judge; sound = past.sound; further = omega (arith, past.further) }
piece_after s opens depth q i tags t j first h (Ok (piece.End e)) ended = (
  ended.0,
  record {
    reads_on = λ judge. first judge ∙ ended.1.reads_on judge;
    sound = ended.1.sound;
    further = omega (arith, ended.1.further);
  },
)
piece_after s opens depth q i tags t j first h (Ok (piece.Name from end)) found =
    record { reads_on = λ judge. first judge ∙ found.reads_on judge; here = found.here; further = omega (arith, found.further) }
piece_after s opens depth q i tags t j first h (Err bad) stops = λ judge. first judge ∙ stops judge

-- a piece read from after a tag's `<` on
pub after_less : (s : List ℕ) (opens : List Open) (depth : ℕ) (q : Place) (k i tags : ℕ) → k < i
    → (p : Result Piece BadByte) → PieceFrom s opens depth q i tags p → AfterLess k p
after_less s opens depth q k i tags h (Ok (piece.Rest e)) past = tt
after_less s opens depth q k i tags h (Ok (piece.End e)) ended = tt
after_less s opens depth q k i tags h (Ok (piece.Name from end)) found = omega (arith, found.further)
after_less s opens depth q k i tags h (Err bad) stops = tt

-- ---- an end tag

module _ (s : List ℕ) (element : Open) (at : ℕ) (behind : NameBehind element at) (within : at ≤ length s) where
  -- where the name begins
  abbrev from : ℕ
  from = element.from

  -- where it ends
  abbrev end : ℕ
  end = element.end

  -- the name lies within the plan
  end-within : end ≤ length s
  end-within = omega (arith, behind.behind)

  module _ (last : ℕ) (run : Agrees s from end at last) where
    -- past what agrees
    past-agreeing : (around : List (List ℕ))
        → ReadsOn s (closing (part s from end) around) at (closing (part s (from + (last - at)) end) around) last
    past-agreeing around = agrees_reads s from end at last around end-within run

    -- less than the whole name
    pub end_unlike : last - at < end - from → EndFrom s element at (Err (record { at = last }))
    unfolding step ended
    end_unlike h around judge =
        let due = from + (last - at) in
        let short : due < end = omega arith in
        let front : part s due end ≡ get_or s due 0 ∷ part s (suc due) end = part-cons s due end short end-within in
        let q = closing (get_or s due 0 ∷ part s (suc due) end) around in
        past-agreeing around judge
        ∙ ap (λ (n : List ℕ). reads judge s (closing n around) last) front
        ∙ reads-bad judge s q last refl (λ g. rw (ne_eqb (get_or s last 0) (get_or s due 0) (run.stopped short g)))

    module _ (whole : end - from ≤ last - at) (next : ℕ) (white : Skipped is_white s last next) where
      -- past the name and white space
      past-name : (around : List (List ℕ)) → ReadsOn s (closing (part s from end) around) at (closing [] around) next
      unfolding step met after_end
      past-name around judge =
          let limit : from + (last - at) ≤ end = run.not_beyond in
          let forward : from ≤ end = behind.forward in
          let all : from + (last - at) ≡ end = omega arith in
          let none : part s (from + (last - at)) end ≡ [] = ap (λ (i : ℕ). part s i end) all ∙ part_none s end in
          past-agreeing around judge
          ∙ ap (λ (n : List ℕ). reads judge s (closing n around) last) none
          ∙ skipped_reads is_white s (closing [] around) (λ b e. rw (e)) (λ b rest. refl) last next white judge

      -- `>` is due
      pub end_due : (e : Result ℕ BadByte) → ByteAt s next greater e → EndFrom s element at e
      unfolding step met ended after_end
      end_due (Ok e) there =
          let onward : at ≤ last = run.onward in
          let more : last ≤ next = white.onward in
          subst (λ (z : ℕ). EndFrom s element at (Ok z)) (sym there.0) (
            λ around judge.
                past-name around judge
                ∙ read_byte s (closing [] around) (leave around) next there.1 (rw (there.2)) (λ b rest. refl) judge,
            omega arith,
            omega (arith, there.1),
          )
      end_due (Err bad) there =
          λ around judge.
          past-name around judge
          ∙ reads-bad judge s (closing [] around) next refl
          (λ h. rw (white.stopped h, ne_eqb (get_or s next 0) greater (there.1 h)))
          ∙ ap (refused_at bad_plan) (sym there.0)

-- ---- a tag

-- no end tag begins where no element is open, or with a byte but `/`
no_end : (s : List ℕ) (opens : List Open) (depth b : ℕ) → (0 < depth → b ≡ slash → ⊥) → end_begins (open_names s opens depth) b ≡ stop
unfolding open_names end_begins
no_end s opens zero b other = refl
no_end s opens (suc d) b other = rw (ne_eqb b slash (other (omega arith)))

-- where one is open, `/` begins it
slash-begins : (s : List ℕ) (opens : List Open) (d : ℕ) → 0 < d
    → step (opened (open_names s opens d)) slash ≡ go (closing (open_name s opens (d - 1)) (open_names s opens (d - 1)))
unfolding step end_begins open_names
slash-begins s opens zero h = let z : ⊥ = omega arith in absurd z
slash-begins s opens (suc d) h =
    let ends : begins_name (slash ∷ []) ≡ false = slash-ends [] in
    let less_one : d ≡ suc d - 1 = omega arith in
    let goes : step (opened (open_names s opens (suc d))) slash ≡ go (closing (open_name s opens d) (open_names s opens d)) = rw (ends) in
    goes ∙ ap (λ (k : ℕ). go (closing (open_name s opens k) (open_names s opens k))) less_one

module _ (s : List ℕ) (opens : List Open) (depth : ℕ) (r : Reached) where
  -- after the `<`
  abbrev tag_place : Place
  tag_place = opened (open_names s opens depth)

  module _ (element : Open) (is : element ≡ open_at opens (depth - 1)) (deep : 0 < depth) (h : r.at < length s)
      (e : get_or s r.at 0 ≡ slash) where
    -- the names of the elements around the innermost one
    abbrev outer : List (List ℕ)
    outer = open_names s opens (depth - 1)

    -- the `/` of an end tag
    tag-slash : ReadsOn s tag_place r.at (closing (part s element.from element.end) outer) (r.at + 1)
    unfolding met
    tag-slash judge =
        read_byte s tag_place (closing (open_name s opens (depth - 1)) outer) r.at h
        (ap (step tag_place) e ∙ slash-begins s opens depth deep) (λ b rest. refl) judge
        ∙ ap (λ (o : Open). reads judge s (closing (part s o.from o.end) outer) (r.at + 1)) (sym is)

    -- an end tag
    pub tag_ends : Stacked s opens depth r → (last : ℕ) → EndFrom s element (r.at + 1) (Ok last)
        → PieceFrom s opens depth tag_place r.at r.tags (Ok (piece.End last))
    tag_ends sound last ended = (
      deep,
      record {
        reads_on = λ judge.
            tag-slash judge
            ∙ ended.0 outer judge
            ∙ ap (λ (q : Place). reads judge s q last) (leave-between outer r.tags (omega (arith, sound.begun)));
        sound = stacked_on s opens (depth - 1) r last (stacked_out s opens depth r sound) (omega (arith, ended.1)) ended.2;
        further = omega (arith, ended.1);
      },
    )

    -- or none, for all its `/`
    pub tag_unended : (bad : BadByte) → EndFrom s element (r.at + 1) (Err bad) → PieceFrom s opens depth tag_place r.at r.tags (Err bad)
    tag_unended bad stops judge = tag-slash judge ∙ stops outer judge

  -- a name, or neither
  pub tag_named : (0 < depth → r.at < length s → get_or s r.at 0 ≡ slash → ⊥) → (p : Result Piece BadByte) → NameFrom s r.at p
      → PieceFrom s opens depth tag_place r.at r.tags p
  tag_named other (Ok (piece.Rest e)) none = absurd none
  tag_named other (Ok (piece.End e)) none = absurd none
  tag_named other (Ok (piece.Name from end)) found =
      let there : r.at ≡ from = sym found.0 in
      let at_from : Met s opens depth tag_place r.at r.at end =
      record { reads_on = found.2 (open_names s opens depth); here = found.1; further = omega arith } in
      subst (λ (i : ℕ). Met s opens depth tag_place r.at i end) there at_from
  tag_named other (Err bad) stops =
      stops (open_names s opens depth) (λ h. no_end s opens depth (get_or s r.at 0) (λ deep e. other deep h e))

-- ---- what stands next

-- the byte may stand before a tag
abbrev may_stand : ℕ → ℕ → Bool
may_stand depth b = cond (eqb depth 0) (is_white b) (is_text b)

module _ (s : List ℕ) (opens : List Open) (tags b : ℕ) where
  -- reading stays in its place
  next_stays : (depth : ℕ) → may_stand depth b ≡ true
      → step (between (open_names s opens depth) tags) b ≡ go (between (open_names s opens depth) tags)
  unfolding step open_names
  next_stays zero e = outside (eqb tags 0)
    where
      outside : (first : Bool) → step (cond first before after) b ≡ go (cond first before after)
      outside true = rw (e)
      outside false = rw (e)
  next_stays (suc d) e =
      let text : is_text b ≡ true = subst (λ z. cond z (is_white b) (is_text b) ≡ true) (eqb-suc-zero d) e in
      let apart : eqb b less ≡ false = (false_or (eqb b less) (eqb b ampersand) (not-true (eqb b less || eqb b ampersand) text)).0 in
      rw (text, apart)

  -- or it cannot go on, but for a tag
  next_stops : (depth : ℕ) → may_stand depth b ≡ false → eqb b less ≡ false
      → step (between (open_names s opens depth) tags) b ≡ stop
  unfolding step open_names
  next_stops zero e apart = outside (eqb tags 0)
    where
      outside : (first : Bool) → step (cond first before after) b ≡ stop
      outside true = rw (e, apart)
      outside false = rw (e)
  next_stops (suc d) e apart =
      let text : is_text b ≡ false = subst (λ z. cond z (is_white b) (is_text b) ≡ false) (eqb-suc-zero d) e in
      rw (text, apart)

  -- `<` cannot begin a second outermost element
  next_second : (depth : ℕ) → may_stand depth b ≡ false → depth ≡ 0 → 0 < tags
      → step (between (open_names s opens depth) tags) b ≡ stop
  unfolding step open_names
  next_second zero e outer begun = outside (eqb tags 0) (ne_eqb tags 0 (λ z. let w : ⊥ = omega arith in w))
    where
      outside : (first : Bool) → first ≡ false → step (cond first before after) b ≡ stop
      outside true g = absurd (true≢false g)
      outside false g = rw (e)
  next_second (suc d) e outer begun = let z : ⊥ = omega arith in absurd z

-- else it begins a tag
next_opens : (s : List ℕ) (opens : List Open) (tags depth : ℕ) → (depth ≡ 0 → 0 < tags → ⊥)
    → step (between (open_names s opens depth) tags) less ≡ go (opened (open_names s opens depth))
unfolding step open_names
next_opens s opens tags zero first_one = outside (eqb tags 0) (eq-eqb tags 0 (none tags (first_one refl)))
  where
    none : (k : ℕ) → (0 < k → ⊥) → k ≡ 0
    none k h = omega arith

    outside : (first : Bool) → first ≡ true → step (cond first before after) less ≡ go (opened [])
    outside true g = refl
    outside false g = absurd (false≢true g)
next_opens s opens tags (suc d) first_one = refl

-- no tag's name is there
none_between : (names : List (List ℕ)) (tags b : ℕ) (rest : List ℕ) → met (between names tags) b rest ≡ []
unfolding met
none_between [] tags b rest = outside (eqb tags 0)
  where
    outside : (first : Bool) → met (cond first before after) b rest ≡ []
    outside true = refl
    outside false = refl
none_between (n ∷ names) tags b rest = refl

module _ (s : List ℕ) (opens : List Open) (depth : ℕ) (r : Reached) (at : ℕ) (run : BeforeTag s depth r.at at) where
  -- where reading stands
  abbrev here : Place
  here = place_of s opens depth r

  -- past what may stand before a tag
  past_before : ReadsOn s here r.at here at
  past_before =
      skipped_reads (may_stand depth) s here (λ b e. next_stays s opens r.tags b depth e)
      (none_between (open_names s opens depth) r.tags) r.at at run

  -- nothing else
  pub only_before : Stacked s opens depth r → r.at < length s → length s ≤ at
      → PieceFrom s opens depth here r.at r.tags (Ok (piece.Rest at))
  only_before sound h g =
      record {
        reads_on = past_before;
        sound = stacked_on s opens depth r at sound (omega arith) run.within;
        further = omega arith;
      }

  module _ (h : at < length s) where
    -- a byte that begins no tag
    pub no_tag : (get_or s at 0 ≡ less → ⊥) → Stops s here r.at at
    no_tag g judge =
        past_before judge
        ∙ reads-stop judge s here at h
        (next_stops s opens r.tags (get_or s at 0) depth (run.stopped h) (ne_eqb (get_or s at 0) less g))

    -- after the outermost element
    pub second_element : depth ≡ 0 → 0 < r.tags → Stops s here r.at at
    second_element outer begun judge =
        past_before judge
        ∙ reads-stop judge s here at h (next_second s opens r.tags (get_or s at 0) depth (run.stopped h) outer begun)

    -- the `<` of a tag
    pub tag_next : get_or s at 0 ≡ less → (depth ≡ 0 → 0 < r.tags → ⊥)
        → ReadsOn s here r.at (opened (open_names s opens depth)) (at + 1)
    tag_next e inner judge =
        past_before judge
        ∙ read_byte s here (opened (open_names s opens depth)) at h
        (ap (step here) e ∙ next_opens s opens r.tags depth inner)
        (none_between (open_names s opens depth) r.tags) judge

-- the answers of each function
pub ruleset names_end = (name_found, name_bad)

pub ruleset end_tags = (end_unlike, end_due)

pub ruleset closes = (end_full, end_bad, empty_bad, end_empty)

pub ruleset tags_at = (name_behind, tag_ends, tag_unended, tag_named)

pub ruleset pieces_next = (piece_after, after_less, only_before, no_tag, second_element, tag_next)
