-- The edit by the old plan and its index: a law for each return of the functions of edit.rt.
use Rattle.std.specs.Prelude.{Err, Ok}
use Rattle.std.specs.Prelude.{Result as Answered}
use Rattle.tree_reader.specs.declared.node.ReadError.{ReadError}
use Rattle.tree_reader.specs.declared.node.ReadError.TheVariants.{Deep, Broken}
use Prim.Native.Nat.{ℕ, ◌+◌, ◌-◌, ◌<◌, ◌≤◌}
use mathlib.Core.Path.{◌≡◌, refl, sym, ap, subst, ◌∙◌}
use mathlib.Core.Bool.{Bool, true, false}
use mathlib.Core.List.{List, [], ◌∷◌, ◌++◌, append-nil}
use native.Mathlib.Omega.{arith}
use lib.ListN.{length, get_or, take, drop, length-append, drop_of_length-le}
use lib.Seq.{drop-append_seam}
use lib.Dec.{ltb}
use borrow.Author.Tests.{lt-ltb, le-ltb}
use Rattle.format_fields.specs.Fields.{pair_at}
use Rattle.format_fields.specs.Inner.Writing.{spliced}
use Rattle.outcome.specs.Outcome.{Result, value, refused, ◌>>=◌, number_of, length_of}
use Rattle.outcome.specs.declared.Reason.{Reason}
use Rattle.outcome.specs.declared.Reason.TheVariants.{OutputTooShort, NotIndexed, IllegalTree}
use Rattle.format_fields.proofs.Codec.{bytes_from}
use Rattle.format_fields.proofs.Split.{front}
use Rattle.format_language.specs.Language.{Language}
use Rattle.tree_reader.specs.Code.{Code}
use Rattle.tree_reader.specs.Syntax as Meant
use Rattle.tree_reader.specs.Syntax.{write, tree}
use Rattle.tree_reader.specs.Operations.{tree_levels, whole_tree}
use Rattle.tree_reader.specs.Inner.Index.{Ready}
use Rattle.tree_reader.specs.Inner.Positions.{EndsBy, refusal_of, rest_at, rest_of, Read}
use Rattle.tree_reader.proofs.Members.{in_below}
use Rattle.tree_reader.proofs.Sound.{read_done}
use Rattle.tree_reader.proofs.Meaning.{done_of, deep_of, broken_of}
use Rattle.tree_index.specs.Spans.{Span, span, size, spans, entries, index_of}
use Rattle.tree_index.specs.Operations.{longest, is_long}
use Rattle.tree_index.specs.Inner.Marking.{last_place}
use Rattle.tree_index.specs.Inner.Starts.{Behind, Splits}
use Rattle.tree_index.proofs.Walking.{entries_append, entries_few}
use Rattle.tree_index.proofs.Starts.{own_span, spans_below, entered_own}
use Rattle.tree_index.proofs.Building.{put_first}
use Rattle.tree_block.specs.Blocks.{Block, block_of, reached, block_at, every_kind}
use Rattle.tree_block.specs.Operations.{found}
use Rattle.tree_block.proofs.Reaching.{seen_reached}
use Rattle.tree_block.specs.declared.show.Spot.{Spot}
use Rattle.tree_block.specs.Inner.Descent.{Along}
use Rattle.tree_edit.specs.Plans.{replace_at}
use Rattle.tree_edit.specs.Operations.{new_block, new_plan, in_rooms, Editing}
use Rattle.tree_edit.specs.Answers.{Hands, EditTold}
use Rattle.tree_edit.specs.Inner.Moving.{Movable, Parted, Rewrites, moved_spans, Replaces, Reaches, Owns, plan_in, block_in, path_in, Gives}
use Rattle.tree_edit.specs.declared.edit.Edited.{Edited}
use Rattle.tree_edit.specs.declared.edit.Lengths.{Lengths}
use Rattle.tree_edit.proofs.Replacing.{Moved, around, edited_moved, replaced}
use Rattle.tree_edit.proofs.Entries.{new_long, parts_room}

pub gives_refused : (m : Result Code) (plan index : List ℕ) {x : Reason} → m ≡ refused x → Gives m plan plan index index (Err x)
gives_refused m plan index e = rw e (record { outcome = refl; long = refl; plan_is = refl; index_is = refl })

-- The plan in parts.
module _ {x s b i path block : List ℕ} {kind of start old : ℕ} {l : Language} {t a u : Code} (w : Replaces x s b i path block kind of start old l t a u) where
  abbrev next : Code
  next = replace_at path u t

  long_is : length b ≡ size t
  long_is = ap length w.plan

  pub parts : Moved a u start 0 (length b) (write tree t) (write tree next) (spans 0 t) (spans 0 next)
  parts = edited_moved a u start (length b) (replaced every_kind l u (block_of start of a) path (block_of 0 kind t) w.leads) (omega (arith, long_is))

  start_is : start ≡ length parts.head
  start_is = parts.starts ∙ omega arith

  b_is : b ≡ parts.head ++ (write tree a ++ parts.tail)
  b_is = w.plan ∙ parts.bytes_were

  b_long : length b ≡ length parts.head + (size a + length parts.tail)
  b_long = ap length b_is ∙ (length-append parts.head (write tree a ++ parts.tail) ∙ ap (λ (n : ℕ). length parts.head + n) (length-append (write tree a) parts.tail))

  -- The block ends in the plan.
  pub block_inside : start + old ≤ length b
  block_inside = omega (arith, start_is, b_long, w.size_is)

  pub plan_short : start + old ≤ longest
  plan_short = let h = block_inside in omega (arith, w.short)

  -- The bytes of the new plan.
  pub bytes_are : write tree next ≡ take start b ++ (block ++ drop (start + old) b)
  bytes_are =
      around parts
      ∙ (ap (λ (v : List ℕ). take start v ++ (write tree u ++ drop (start + size a) v)) (sym w.plan)
      ∙ (ap (λ (v : List ℕ). take start b ++ (v ++ drop (start + size a) b)) (sym w.new)
      ∙ ap (λ (n : ℕ). take start b ++ (block ++ drop (start + n) b)) (sym w.size_is)))

  pub new_size : length (write tree next) ≡ length b - old + length block
  new_size =
      let n : length (write tree u) ≡ length block = sym (ap length w.new) in
      ap length parts.bytes_are
      ∙ (length-append parts.head (write tree u ++ parts.tail)
      ∙ (ap (λ (j : ℕ). length parts.head + j) (length-append (write tree u) parts.tail) ∙ omega (arith, b_long, w.size_is, n)))

  -- The old index in parts, and the new one.
  pub own_parted : Parted i start old (length b) a parts.front parts.back
  unfolding index_of
  own_parted = record {
    is = w.own ∙ ap entries parts.spans_were;
    below = parts.below;
    behind = parts.behind;
    in_front = subst (λ (n : ℕ). Movable start n (length b) parts.front) (sym w.size_is) parts.in_front;
    at_back = subst (λ (n : ℕ). Movable start n (length b) parts.back) (sym w.size_is) parts.at_back;
  }

  pub index_is : index_of next ≡ entries (moved_spans start old u parts.front parts.back)
  unfolding index_of
  index_is = ap entries parts.spans_are ∙ ap (λ (n : ℕ). entries (moved_spans start n u parts.front parts.back)) (sym w.size_is)

  pub index_few : length i ≤ 400000
  unfolding index_of
  index_few = let n = ap length w.own in let f = entries_few t 0 in omega (arith, w.short, long_is)

  -- rewrite: where the block's entries begin and end.
  pub first_splits : Splits i 0 start parts.front (spans start a ++ parts.back)
  first_splits =
      let o = own_span start a in
      let e : spans start a ++ parts.back ≡ span start (size a) ∷ (o.0 ++ parts.back) = ap (λ (v : List Span). v ++ parts.back) o.1 in
      record { is = own_parted.is; below = parts.below; behind = rw e (omega arith) }

  module _ {p : ℕ} (ep : p ≡ 0 + length (entries parts.front)) where
    front_long : length i ≡ length (entries parts.front) + length (entries (spans start a ++ parts.back))
    front_long = ap length (own_parted.is ∙ entries_append parts.front (spans start a ++ parts.back)) ∙ length-append (entries parts.front) (entries (spans start a ++ parts.back))

    pub first_inside : p ≤ length i
    first_inside = omega (arith, front_long)

    pub last_splits : Splits i p (start + old) (spans start a) parts.back
    last_splits =
        let e : p ≡ length (entries parts.front) = omega arith in
        record {
          is =
              ap (λ (j : ℕ). drop j i) e
              ∙ (ap (drop (length (entries parts.front))) (own_parted.is ∙ entries_append parts.front (spans start a ++ parts.back))
              ∙ drop-append_seam (entries parts.front) (entries (spans start a ++ parts.back)));
          below = spans_below a start (start + old) (omega (arith, w.size_is));
          behind = subst (λ (n : ℕ). Behind (start + n) parts.back) (sym w.size_is) parts.behind;
        }

    module _ {q : ℕ} (eq : q ≡ p + length (entries (spans start a))) where
      pub last_inside : q ≤ length i
      last_inside =
          let n : length (entries (spans start a ++ parts.back)) ≡ length (entries (spans start a)) + length (entries parts.back) =
          ap length (entries_append (spans start a) parts.back) ∙ length-append (entries (spans start a)) (entries parts.back) in
          omega (arith, front_long)

      module _ {z : ℕ} (ez : z ≡ length b - old + length block) (fits : z ≤ longest) where
        pub new_fits : start + length block ≤ longest
        new_fits = let h = block_inside in omega arith

        pub rewrites : Rewrites x s block i of start old (length b) p q l a u parts.front parts.back
        rewrites =
            let h = block_inside in
            record {
              parted = own_parted;
              fits = record { before = w.short; after = omega arith };
              inside = block_inside;
              size_is = w.size_is;
              first = omega arith;
              last = eq;
              there = w.there;
              whole = ap length w.new;
              short = new_fits;
              few = index_few;
            }

        pub plan_room : (plan : List ℕ) → z ≤ length plan → start + length block + (length b - (start + old)) ≤ length plan
        plan_room plan h = let k = block_inside in omega arith

        -- The length of the new index.
        module _ {end : ℕ} (ee : end ≡ p + length (entries (spans start u))) where
          pub length_small : end + (length i - q) < last_place
          length_small =
              let y = parts_room rewrites
              (length (entries (moved_spans start old u parts.front parts.back))) (omega arith) in
              omega (arith, y.3)

          pub length_is : end + (length i - q) ≡ length (entries (moved_spans start old u parts.front parts.back))
          length_is = let m = new_long rewrites in omega arith

          whole_index : end + (length i - q) ≡ length (index_of next)
          whole_index = length_is ∙ sym (ap length index_is)

          plan_fits : (plan : List ℕ) → z ≤ length plan → ltb (length plan) (length (write tree next)) ≡ false
          plan_fits plan h = le-ltb (length plan) (length (write tree next)) (omega (arith, new_size))

          module _ (plan index : List ℕ) where
            pub plan_too_short : length plan < z → Gives (in_rooms (length plan) (length index) next) plan plan index index (Err OutputTooShort)
            plan_too_short h =
                let y : ltb (length plan) (length (write tree next)) ≡ true = lt-ltb (length plan) (length (write tree next)) (omega (arith, new_size)) in
                gives_refused (in_rooms (length plan) (length index) next) plan index (rw y refl)

            pub index_too_short : z ≤ length plan → length index < end + (length i - q)
                → Gives (in_rooms (length plan) (length index) next) plan plan index index (Err OutputTooShort)
            index_too_short k h =
                let y : ltb (length index) (length (index_of next)) ≡ true = lt-ltb (length index) (length (index_of next)) (omega (arith, whole_index)) in
                gives_refused (in_rooms (length plan) (length index) next) plan index (rw (plan_fits plan k, y) refl)

            pub both_put : z ≤ length plan → end + (length i - q) ≤ length index → {plan' index' : List ℕ}
                → plan' ≡ spliced plan 0 (take start b ++ (block ++ drop (start + old) b))
                → index' ≡ spliced index 0 (entries (moved_spans start old u parts.front parts.back))
                → Gives (in_rooms (length plan) (length index) next) plan plan' index index' (Ok (record { plan = z; index = end + (length i - q) }))
            both_put k h f g =
                let y : ltb (length index) (length (index_of next)) ≡ false = le-ltb (length index) (length (index_of next)) (omega (arith, whole_index)) in
                rw (plan_fits plan k, y) (record {
                  outcome = ap Ok (ez ∙ sym new_size);
                  long = whole_index;
                  plan_is = f ∙ (ap (spliced plan 0) (sym bytes_are) ∙ put_first plan (write tree next));
                  index_is = g ∙ (ap (spliced index 0) (sym index_is) ∙ put_first index (index_of next));
                })

  -- replace
  module _ (plan index : List ℕ) where
    pub plan_too_long : longest < length b - old + length block → Gives (plan_in (length plan) (length index) path u t) plan plan index index (Err NotIndexed)
    plan_too_long h =
        let y : is_long (write tree next) ≡ true = lt-ltb longest (length (write tree next)) (omega (arith, new_size)) in
        gives_refused (plan_in (length plan) (length index) path u t) plan index (rw y refl)

    pub plan_given : length b - old + length block ≤ longest → {plan' index' : List ℕ} (r : Answered Lengths Reason)
        → Gives (in_rooms (length plan) (length index) next) plan plan' index index' r → Gives (plan_in (length plan) (length index) path u t) plan plan' index index' r
    plan_given h r c =
        let y : is_long (write tree next) ≡ false = le-ltb longest (length (write tree next)) (omega (arith, new_size)) in
        rw y c

-- replace_block
module _ {x s b i path : List ℕ} {kind of start old numbers : ℕ} {l : Language} {t a : Code} (w : Reaches x s b i path kind of start old numbers l t a) (block : List ℕ) where
  pub block_ready : Ready x s of block 0
  block_ready = record { sound = w.index_of.indexed.sound; kind = in_below s of l w.index_of.indexed.entries w.known; inside = omega arith }

  abbrev here : Block
  here = block_of start of a

  -- What is left to be decided.
  abbrev After : (plan index : List ℕ) → Meant.Read Code → Result Code
  After plan index o = (whole_tree o >>= λ u. new_plan path u t) >>= λ v. in_rooms (length plan) (length index) v

  abbrev what : Meant.Read Code
  what = Meant.read tree l [] (tree_levels - length path) of block

  module _ {n : ℕ} (en : n ≡ 64 - numbers) (r : Read) (er : rest_at block r ≡ rest_of (Meant.read tree l [] n of block)) where
    what_is : rest_of what ≡ rest_at block r
    what_is = sym (er ∙ ap (λ (m : ℕ). rest_of (Meant.read tree l [] m of block)) (en ∙ ap (λ (m : ℕ). 64 - m) w.numbers_are))

    module _ (plan index : List ℕ) where
      pub block_refused : (e : ReadError) → r ≡ Err e → Gives (block_in (length plan) (length index) l path here block t) plan plan index index (Err (refusal_of e))
      block_refused Deep q = gives_refused (After plan index what) plan index (ap (After plan index) (deep_of what (what_is ∙ ap (rest_at block) q)))
      block_refused Broken q = gives_refused (After plan index what) plan index (ap (After plan index) (broken_of what (what_is ∙ ap (rest_at block) q)))

    module _ {e : ℕ} (q : r ≡ Ok e) (inside : EndsBy (length block) r) where
      pub done_is : (u : Code) × (what ≡ Meant.done u (drop e block))
      done_is = done_of what (drop e block) (what_is ∙ ap (rest_at block) q)

      pub block_left : (plan index : List ℕ) → (e ≡ length block → ⊥) → Gives (block_in (length plan) (length index) l path here block t) plan plan index index (Err IllegalTree)
      block_left plan index h =
          let j : e ≤ length block = rw q at inside in
          let g : e < length block = omega arith in
          gives_refused (After plan index what) plan index (ap (After plan index) (done_is.1 ∙ ap (Meant.done done_is.0) (front block e g)))

      module _ (all : e ≡ length block) where
        whole_is : what ≡ Meant.done done_is.0 []
        whole_is = done_is.1 ∙ ap (Meant.done done_is.0) (drop_of_length-le block {i = e} (omega arith))

        pub block_replaces : ((j : ℕ) → get_or block j 0 < 256) → Replaces x s b i path block kind of start old l t a done_is.0
        block_replaces bytes =
            let g = read_done tree l [] (tree_levels - length path) of block done_is.0 [] whole_is in
            let y : block ≡ write tree done_is.0 ++ [] = (g.2 (bytes_from block (λ j h. bytes j))).0 in
            record {
              plan = w.plan;
              own = w.own;
              short = w.short;
              leads = w.leads;
              size_is = w.size_is;
              there = record {
                index_of = w.index_of;
                lies = record { rest = []; is = y; inside = omega arith; typed = g.0; within = let m = g.1 in omega arith; known = w.known };
              };
              new = y ∙ append-nil (write tree done_is.0);
            }

        pub block_given : (plan index : List ℕ) {plan' index' : List ℕ} (d : Answered Lengths Reason) → Gives (plan_in (length plan) (length index) path done_is.0 t) plan plan' index index' d
            → Gives (block_in (length plan) (length index) l path here block t) plan plan' index index' d
        block_given plan index d c =
            let z : new_block l path here block ≡ value done_is.0 = ap whole_tree whole_is in
            rw z c

-- edit_legal
module _ {x s b i : List ℕ} {kind : ℕ} {l : Language} {t : Code} (w : Owns x s b i kind l t) (sees : ℕ → Bool) (path : List ℕ) where
  pub path_refused : (block plan index : List ℕ) {e : Reason} → found (block_at sees l path (block_of 0 kind t)) ≡ refused e
      → Gives (path_in (length plan) (length index) l path (block_at sees l path (block_of 0 kind t)) block t) plan plan index index (Err e)
  path_refused block plan index {e} q =
      let Whole : Result Block → Result Code = λ o. (o >>= λ c. new_block l path c block >>= λ u. new_plan path u t) >>= λ v. in_rooms (length plan) (length index) v in
      gives_refused (Whole (found (block_at sees l path (block_of 0 kind t)))) plan index (ap Whole q)

  -- The block to which the path leads, and where it lies.
  module _ {start of entry : ℕ} {a : Code} (leads : block_at sees l path (block_of 0 kind t) ≡ reached (block_of start of a)) (there : Along x s b i start of entry l a)
      {r : Spot} (es : r.start ≡ start) (ez : r.size ≡ pair_at i (entry + 2)) (ek : r.kind ≡ of) where
    landed : block_at sees l path (block_of 0 kind t) ≡ reached (block_of r.start r.kind a)
    landed = rw (es, ek) leads

    pub path_reaches : Reaches x s b i path kind r.kind r.start r.size (length path) l t a
    path_reaches = rw (es, ek) (record {
      plan = w.plan;
      own = w.own;
      short = w.along.short;
      leads = seen_reached sees l (block_of start of a) path (block_of 0 kind t) leads;
      size_is = ez ∙ (entered_own i entry start a there.entered).1.long;
      numbers_are = refl;
      index_of = there.there.index_of;
      known = there.there.lies.known;
    })

    pub path_given : (block plan index : List ℕ) {plan' index' : List ℕ} (e : Answered Lengths Reason)
        → Gives (block_in (length plan) (length index) l path (block_of r.start r.kind a) block t) plan plan' index index' e
        → Gives (path_in (length plan) (length index) l path (block_at sees l path (block_of 0 kind t)) block t) plan plan' index index' e
    path_given block plan index e c = rw landed c

-- The answer told by numbers.
pub tells : (d : Editing) (plan index : List ℕ) (r : Edited) → Hands d plan index r → (n m : ℕ) → n ≡ number_of r.outcome → m ≡ length_of r.outcome
    → EditTold d n m r.indexed plan index
tells d plan index r w n m en em = record {
  number_is = en ∙ ap number_of w.outcome;
  plan_long = em ∙ ap length_of w.outcome;
  index_long = w.long;
  plan_is = w.plan_is;
  index_is = w.index_is;
}
