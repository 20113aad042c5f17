-- The operation by its chain of tests: a law for each return of `join_held`, `join_parts` and `join_table`.
use Rattle.std.specs.Prelude as Std
use Rattle.std.specs.Prelude.{Some, None, Err, Ok, ⊤}
use Prim.Native.Nat.{ℕ, ◌+◌, ◌<◌, ◌≤◌}
use mathlib.Core.Path.{◌≡◌, refl, sym, ap, ◌∙◌}
use mathlib.Core.Bool.{Bool, true, false}
use mathlib.Core.List.{List, ◌++◌}
use mathlib.Core.Option.{some}
use native.Mathlib.Omega.{arith}
use lib.ListN.{length, get_or, take, drop, length-drop}
use lib.Seq.{take-append_seam, get_or-drop}
use lib.IntN.{ℤ}
use borrow.Author.Tests.{lt-ltb, le-ltb}
use Rattle.format_fields.specs.Lists.{all}
use Rattle.format_fields.specs.Fields.{fields_of}
use Rattle.outcome.specs.Outcome.{Result, value, refused, checked, Outcome}
use Rattle.outcome.specs.declared.Reason.{Reason}
use Rattle.outcome.specs.declared.Reason.TheVariants as Why
use Rattle.format_fields.specs.Inner.Places.{places}
use Rattle.format_fields.specs.Inner.Writing.{Written}
use Rattle.format_fields.proofs.Splices.{opened}
use Rattle.format_language.specs.Language.{Language, production_key}
use Rattle.format_language.specs.Inner.Entries.{RisingEntries}
use Rattle.format_language.proofs.Holds.{holds_entries}
use Rattle.format_language.proofs.Chain.{rising_is}
use Rattle.tree_reader.specs.Inner.Index.{put_all, Built}
use Rattle.tree_reader.proofs.Built.{indexed_front}
use Rattle.format_translation.specs.Translation.{Translation, Body}
use Rattle.format_translation.specs.TranslationFile.{body_of, translation_of}
use Rattle.format_translation.specs.Operations.{check_translation}
use Rattle.format_translation.specs.Inner.ItemIndex.{IndexedItems}
use Rattle.format_translation.specs.Inner.Parts.{source_in, target_in, body_in}
use Rattle.format_translation.proofs.Codec.{translation_whole, rises_parts}
use Rattle.format_translation.proofs.Cuts.{pieces_in, body_in_short}
use Rattle.format_translation.proofs.Found.{cut, rest_is}
use Rattle.format_translation.specs.Plain.{plain}
use Rattle.run_table.specs.Inner.Table.{Checked}
use Rattle.score_tree.specs.LoadTable.{Table, loads_of, table_of, figure_of, encode_table}
use Rattle.score_tree.specs.Linear.{Loads}
use Rattle.score_tree.specs.Inner.Kept.{Kept}
use Rattle.score_tree.specs.Inner.Terms.{World}
use Rattle.score_tree.proofs.Answering.{world_is, table_there}
use Rattle.score_tree.specs.Inner.Results.{settled}
use Rattle.score_join.specs.declared.join.Held.{Held}
use Rattle.score_join.specs.Joined.{load_fits, joined_table, joined_of, join_bytes, join_table}
use Rattle.score_join.specs.Inner.Loading.{Behind, Parts, Puts, Answers, join_on, join_with, join_any}

-- A refusal leaves the output as it was.
answer_refused : {a : Result (List ℕ)} {r : Reason} {o : List ℕ} → refused r ≡ a → Answers a o o (Err r)
answer_refused e = rw (← e) (record { answer = refl; left = refl })

pub answers_same : {a b : Result (List ℕ)} {o after : List ℕ} {out : Outcome} → a ≡ b → Answers a o after out → Answers b o after out
answers_same e h = rw (← e) h

-- What is looked up in a table that begins with the index.
module _ (s index part : List ℕ) (fig : List ℤ) (l : Language) (w : Loads) (long : 8224 ≤ length part) (same : (j : ℕ) → j < 8224 → get_or part j 0 ≡ get_or index j 0)
  where
    world_front : World s index fig l w → World s part fig l w
    world_front z = record {
      indexed = indexed_front index part s long same l z.indexed;
      apart = z.apart;
      small = z.small;
      long = z.long;
      is = λ k p ks h i e j g. rw (same (production_key k p) (omega arith)) (z.is k p ks h i e j g);
      sized = λ k p ks h i e. rw (same (production_key k p) (omega arith)) (z.sized k p ks h i e);
    }

-- The target's index, which the check left, its figures, and the body's index.
pub parts_held : (hd : Held) (indexes : List ℕ) (f : Translation) (w : Table) → hd.target.index.now ≡ cut indexes 8224 (length indexes) → ((i : ℕ) → get_or hd.source.now i 0 < 256) → ((i : ℕ) → get_or hd.target.language.now i 0 < 256) → ((i : ℕ) → get_or hd.body.now i 0 < 256) → Behind hd.target.language.now indexes → Checked hd.source.now hd.target.language.now hd.body.now f
    → plain f.body ≡ true → Kept hd.target.figures.now hd.target.language.now w → ((c : Body) → body_of hd.body.now ≡ some c → IndexedItems hd.items.now hd.body.now c)
    → Parts hd f (figure_of w)
parts_held hd indexes f w ei source_bytes bytes body_bytes q z n k ind =
    let d = length-drop 8224 indexes in
    let x = q.built in
    let whole = world_is hd.target.language.now hd.target.figures.now f.target w bytes
    (record { entries = z.pieces.target; apart = (translation_whole z.file f z.accepted).1.target_apart; short = z.pieces.target_short; kept = k })
    x.zeros (put_all 0x11 hd.target.language.now x.zeros (places hd.target.language.now)) x.long x.zero refl in
    record {
      checked = z;
      source_bytes = source_bytes;
      body_bytes = body_bytes;
      plain_body = n;
      world = rw (ei ∙ rest_is indexes 8224)
          (world_front hd.target.language.now (put_all 0x11 hd.target.language.now x.zeros (places hd.target.language.now)) (drop 8224 indexes) hd.target.figures.now f.target (figure_of w) (omega (arith, q.long))
          (λ j h. get_or-drop 8224 indexes j 0 ∙ x.is j h) whole);
      indexed = ind f.body z.pieces.body;
    }

-- join_held
module _ (f : Translation) (w : Table) (o joined buffer : List ℕ) (r : Std.Option ℕ)
    (u : Puts (all (load_fits f (figure_of w)) f.source) (encode_table (joined_table f (figure_of w))) buffer joined 0 r) where
  abbrev bytes : List ℕ
  bytes = encode_table (joined_table f (figure_of w))

  pub held_outside : r ≡ None → Answers (join_on f w (length o)) o o (Err Why.ValueTooLarge)
  unfolding join_on joined_of
  held_outside e = answer_refused (rw (u.outside e) refl)

  module _ (n : ℕ) (e : r ≡ Some n) where
    put_is : Written bytes buffer joined 0 n
    put_is = (u.done n e).1

    pub held_fits : n ≤ length buffer
    held_fits = put_is.fits

    long : n ≡ length bytes
    long = let x = put_is.end in omega arith

    pub held_short : length o < n → Answers (join_on f w (length o)) o o (Err Why.OutputTooShort)
    unfolding join_on joined_of
    held_short h = answer_refused (rw ((u.done n e).0, lt-ltb (length o) (length bytes) (rw (← long) h)) refl)

    part : take n joined ≡ bytes
    part =
        ap (take n) (put_is.bytes ∙ opened buffer 0 bytes)
        ∙ (ap (λ (i : ℕ). take i (bytes ++ drop (0 + length bytes) buffer)) long ∙ take-append_seam bytes (drop (0 + length bytes) buffer))

    pub held_put : n ≤ length o → Answers (join_on f w (length o)) o (take n joined ++ drop n o) (Ok n)
    unfolding join_on joined_of
    held_put h = answers_same same (record { answer = ap Ok long; left = λ i. part i ++ drop (long i) o })
      where
        same : value bytes ≡ join_on f w (length o)
        same = rw ((u.done n e).0, le-ltb (length o) (length bytes) (rw (← long) h)) refl

-- join_plain
pub rising_target : (s t b : List ℕ) (f : Translation) → Checked s t b f → RisingEntries t
rising_target s t b f z =
    let h = holds_entries t f.target z.pieces.target in
    record { whole = h.whole; rises = rising_is t f.target h ∙ (rises_parts f (translation_whole z.file f z.accepted).1.rises).1 }

module _ (f : Translation) (t o : List ℕ) {x : Std.Result ⊤ Reason} (ex : x ≡ settled (table_of f.target t)) where
  pub table_refused : {r : Reason} → x ≡ Err r → Answers (join_with f t (length o)) o o (Err r)
  unfolding join_with
  table_refused {r} h = answer_refused (go (table_of f.target t) refl (sym ex ∙ h))
    where
      go : (m : Result Table) → table_of f.target t ≡ m → settled m ≡ Err r → refused r ≡ join_with f t (length o)
      go (value w) e g = cc
      go (refused q) e g = let i : q ≡ r = cc in rw (e, i) refl

  module _ {u : ⊤} (h : x ≡ Ok u) where
    there : (w : Table) × (loads_of f.target (fields_of t) ≡ some w)
    there = table_there f.target t (sym ex ∙ h)

    pub the_table : Table
    the_table = there.0

    pub table_is : loads_of f.target (fields_of t) ≡ some the_table
    unfolding the_table
    table_is = there.1

    pub table_joined : {after : List ℕ} {out : Outcome} → Answers (join_on f the_table (length o)) o after out → Answers (join_with f t (length o)) o after out
    unfolding join_with table_of
    table_joined a = answers_same (rw table_is refl) a

-- join_parts
module _ (f : Translation) (t o : List ℕ) {x : Bool} (ex : x ≡ plain f.body) where
  pub numbers_unfit : x ≡ false → Answers (join_any f t (length o)) o o (Err Why.NumberUnfit)
  unfolding join_any
  numbers_unfit h = answer_refused (rw (sym ex ∙ h) refl)

  pub numbers_plain : x ≡ true → {after : List ℕ} {out : Outcome} → Answers (join_with f t (length o)) o after out → Answers (join_any f t (length o)) o after out
  unfolding join_any
  numbers_plain h a = answers_same (rw (sym ex ∙ h) refl) a

-- join_files and join_table
pub behind : {s t indexes : List ℕ} → length indexes ≡ 16448 → Built 0x11 s indexes 8224 → t ≡ s → Behind t indexes
behind l b e = rw e (record { long = l; built = b })

module _ (s t o : List ℕ) where
  pub join_is : {out : Outcome} {after : List ℕ} → Answers (join_bytes s t (length o)) o after out → (out ≡ (join_table s t o).outcome) × (after ≡ (join_table s t o).output)
  unfolding join_table
  join_is a = (a.answer, a.left)

  pub join_refused : (c : Outcome) (r : Reason) → c ≡ check_translation s → c ≡ Err r → Answers (join_bytes s t (length o)) o o (Err r)
  unfolding check_translation join_bytes
  join_refused c r ec h = answer_refused (go (translation_of s) refl (sym ec ∙ h))
    where
      go : (q : Result Translation) → translation_of s ≡ q → checked q ≡ Err r → refused r ≡ join_bytes s t (length o)
      go (value f) e d = cc
      go (refused x) e d = rw e (cc)

  module _ (f : Translation) (e : translation_of s ≡ value f) where
    pub parts_checked : {x y z : List ℕ} → x ≡ source_in s → y ≡ target_in s → z ≡ body_in s → Checked x y z f
    parts_checked ex ey ez = rw (ex, ey, ez) (record { pieces = pieces_in s f e; short = body_in_short s f e; file = s; accepted = e })

    pub join_accepted : {out : Outcome} {after : List ℕ} → Answers (join_any f t (length o)) o after out → Answers (join_bytes s t (length o)) o after out
    unfolding join_bytes join_any join_with join_on
    join_accepted a = rw e a
