-- The search over the parts of a translation: what it hands to `find`.
use Rattle.std.specs.Prelude.{Err, Ok}
use Prim.Native.Nat.{ℕ, ◌+◌, ◌≤◌, ◌<◌}
use mathlib.Core.Path.{◌≡◌, refl, ap, sym, ◌∙◌}
use mathlib.Core.Bool.{Bool, true, false, not, ◌&&◌}
use mathlib.Core.List.{List, [], append-nil}
use mathlib.Core.Option.{some}
use native.Mathlib.Omega.{arith}
use lib.ListN.{length, get_or, replicate}
use lib.Dec.{leb}
use borrow.Author.Tests.{le-ltb, le-leb, lt-leb}
use Rattle.format_fields.specs.Inner.Places.{places}
use Rattle.outcome.specs.Outcome.{Result, value, refused, refuse_if, Outcome}
use Rattle.outcome.specs.declared.Reason.{Reason}
use Rattle.outcome.specs.declared.Reason.TheVariants.{UnknownRoot, LimitOutOfRange, NumberUnfit}
use Rattle.format_fields.proofs.Codec.{bytes_from, value_inj}
use Rattle.format_fields.proofs.Truth.{refuted}
use Rattle.format_fields.proofs.Keyed.{Rising}
use Rattle.format_language.specs.Language.{Language, Range, range_of, is_in}
use Rattle.format_language.specs.LanguageFile.{entries_of, language_limit, language_of}
use Rattle.format_language.proofs.Lookup.{range_mem, class_in}
use Rattle.format_language.proofs.Holds.{holds_entries}
use Rattle.tree_reader.specs.Code.{Code}
use Rattle.tree_reader.specs.Syntax.{write, tree}
use Rattle.tree_reader.specs.Operations.{tree_of, check_tree}
use Rattle.tree_reader.specs.Inner.Index.{Indexed}
use Rattle.tree_reader.proofs.Lookup.{zeros}
use Rattle.tree_reader.proofs.Members.{in_below}
use Rattle.format_translation.specs.Translation.{Translation, item_key, mapping_of, mapped}
use Rattle.format_translation.specs.Running.{clauses_of}
use Rattle.format_translation.specs.TranslationFile.{body_of, translation_of}
use Rattle.format_translation.specs.Operations.{check_translation}
use Rattle.format_translation.specs.Inner.Parts.{source_in, target_in, body_in}
use Rattle.format_translation.specs.Inner.ItemIndex.{Mapped as UsesOf}
use Rattle.run_open.specs.Inner.Opened.{Prepared}
use Rattle.format_translation.proofs.Cuts.{pieces_in, body_in_short}
use Rattle.format_translation.proofs.Accepted.{refused_not}
use Rattle.format_translation.proofs.Codec.{translation_whole, rises_parts}
use Rattle.check_operations.proofs.Legal as Legal
use Rattle.check_operations.proofs.Legal.{tree_right, accepted_tree, refused_tree}
use Rattle.format_translation.proofs.Preserved.{Carries}
use Rattle.format_translation.proofs.Fitting.{fit_carries}
use Rattle.format_translation.proofs.Lookup.{mem_mapping, mem_mapped}
use Rattle.format_translation.specs.Plain.{plain}
use Rattle.format_translation.proofs.PlainUses.{mapping_zero}
use Rattle.run_table.specs.Inner.Table.{Checked}
use Rattle.run_table.proofs.Clauses as Clauses
use Rattle.search_sources.proofs.Names.{named_of}
use Rattle.search_levels.specs.Inner.Setting.{Unnamed, Truthful, Seeks}
use Rattle.format_language.specs.Inner.Entries.{RisingEntries}
use Rattle.format_language.proofs.Chain.{rising_is}
use Rattle.tree_index.specs.Inner.Lying.{There}
use Rattle.tree_reader.proofs.Built.{built_indexed}
use Rattle.search_levels.proofs.Lying.{some_byte}
use Rattle.search_sources.specs.Operations.{is_limit, ready, found_in, search_bytes, search_tree}
use Rattle.search_operation.specs.Inner.Finding.{Searchable, Rooted, Mapped, Placed, Tabled, Opened, Answers, ready_in, ready_from, Leaves}

-- Bytes that are all zero.
pub blank_all : {w : List ℕ} (n : ℕ) → w ≡ replicate n 0 → (i : ℕ) → get_or w i 0 ≡ 0
blank_all n e i = rw e (zeros n i)

pub opened_by : (table uses source target places kinds bytes : List ℕ) (k : ℕ) (f : Translation) (u : Code) → Tabled table uses source target f → Placed target places bytes k f u
    → ((i : ℕ) → get_or source i 0 < 256) → Mapped kinds f.body → ((j : ℕ) → j < 32 → Unnamed table j 0 (get_or kinds (32 + j) 0))
    → Opened table source target places kinds bytes k f u
opened_by table uses source target places kinds bytes k f u z w n m l =
    record { body = z.body; searchable = z.searchable; ready = z.ready; built = z.built; narrow = n; placed = w; maps = m; lowest = l }

-- What is opened, and the memory, are what the search asks for.
module _ (table source target places kinds bytes : List ℕ) (k : ℕ) (f : Translation) (u : Code) (o : Opened table source target places kinds bytes k f u) where
  pub opened_rooted : Rooted source target bytes f u
  opened_rooted = record { body = o.body; checked = o.searchable.checked; whole = o.placed.whole }

  rises : Rising item_key f.body
  rises = Clauses.body_rises o.searchable.checked

  carries : Carries f.source f.target (mapping_of f.body) (clauses_of f)
  carries = fit_carries f rises (Clauses.fits o.searchable.checked)

  has_zero : (j : ℕ) → is_in f.source j ≡ true → mapping_of f.body j 0 ≡ some (mapped f.body j 0)
  has_zero j i =
      let (t, m) = (Clauses.fits o.searchable.checked).maps j i in
      mem_mapping f.body rises j 0 t m ∙ ap some (sym (mem_mapped f.body rises j 0 t m))

  class_there : (j : ℕ) (c : Range) → range_of f.source j ≡ some c → (d : Range) × (range_of f.target (mapped f.body j 0) ≡ some d)
  class_there j c e =
      let d = carries.tokens j 0 (mapped f.body j 0) c (has_zero j (class_in f.source j c (range_mem f.source j c e))) e in
      (d.0, d.1)

  some_bytes : 0 < length bytes
  some_bytes = let x = some_byte o.placed.lies.typed in let y = ap length o.placed.whole in omega arith

  entries_rise : RisingEntries source
  entries_rise =
      let h = holds_entries source f.source o.searchable.checked.pieces.source in
      let w = (translation_whole o.searchable.checked.file f o.searchable.checked.accepted).1 in
      record { whole = h.whole; rises = rising_is source f.source h ∙ (rises_parts f w.rises).0 }

  source_indexed : Indexed table source f.source
  source_indexed =
      built_indexed source table table 0 o.built (let z = o.ready.long in omega arith) (λ j q. ap (λ (i : ℕ). get_or table i 0) (let z : j ≡ 0 + j = omega arith in z)) o.narrow o.searchable.checked.pieces.source_short f.source
      o.searchable.checked.pieces.source

  pub opened_there : k < 32 → {root : ℕ} → root ≡ get_or kinds k 0 → There places target bytes 0 root f.target u
  opened_there small e =
      record { index_of = o.placed.target_index; lies = rw (e ∙ o.maps.maps k small) o.placed.lies }

  pub opened_seeks : k < 32 → (memory free : List ℕ) → Truthful f bytes memory free → Seeks table source target places kinds bytes memory free k 0 f (some u)
  opened_seeks small memory free t = record {
    setting = record {
      targeted = record {
        ready = o.ready;
        target_index = o.placed.target_index;
        maps = o.maps.maps;
        plain = mapping_zero f.body o.searchable.by_zero;
        has_zero = has_zero;
        narrow = o.placed.narrow;
      };
      source_index = source_indexed;
      filed = record { built = o.built; rises = entries_rise; short = o.searchable.checked.pieces.source_short; narrow = o.narrow };
      lowest = o.lowest;
      apart = (translation_whole o.searchable.checked.file f o.searchable.checked.accepted).1.source_apart;
      named = named_of source f.source o.searchable.checked.pieces.source o.narrow;
      tokens = class_there;
    };
    truthful = t;
    kind = small;
    asked = (some_bytes, o.placed.lies);
  }

-- The target is a language by itself.
pub target_language : {source target body : List ℕ} {f : Translation} → Checked source target body f → language_of target ≡ value f.target
unfolding language_of
target_language {f = f} z =
    let w = (translation_whole z.file f z.accepted).1 in
    rw (le-ltb language_limit (length _) z.pieces.target_short, z.pieces.target, (rises_parts f w.rises).1, w.target_apart)

-- search_in
module _ (source target body kinds bytes : List ℕ) (k limit : ℕ) (f : Translation) (z : Checked source target body f) (maps : Mapped kinds f.body) (small : k < 32)
    (root : ℕ) (root_is : root ≡ get_or kinds k 0) (c : Outcome) (told : c ≡ check_tree target root bytes) where
  root_mapped : root ≡ mapped f.body k 0
  root_mapped = root_is ∙ maps.maps k small

  pub stage_refused : (r : Reason) → c ≡ Err r → ready_in f k bytes limit ≡ refused r
  unfolding ready_in
  stage_refused r h =
      let q = refused_tree target root bytes (λ l u. refuse_if (not (is_limit limit)) LimitOutOfRange (value f)) {r = r} (sym told ∙ h) in
      rw (target_language z, root_mapped) at q

  module _ (n : ℕ) (h : c ≡ Ok n) where
    abbrev checked : Legal.Checked target root bytes
    checked = accepted_tree target root bytes (sym told ∙ h)

    same_language : checked.language ≡ f.target
    same_language = value_inj (sym checked.is ∙ target_language z)

    pub tree_is : tree_of f.target (mapped f.body k 0) bytes ≡ value checked.subject
    tree_is = ap (λ (l : Language). tree_of l (mapped f.body k 0) bytes) (sym same_language) ∙ (ap (λ (j : ℕ). tree_of checked.language j bytes) (sym root_mapped) ∙ checked.tree_is)

    pub limit_refused : is_limit limit ≡ false → ready_in f k bytes limit ≡ refused LimitOutOfRange
    unfolding ready_in
    limit_refused e = rw (tree_is, e)

    pub stage_passed : is_limit limit ≡ true → ready_in f k bytes limit ≡ value f
    unfolding ready_in
    stage_passed e = rw (tree_is, e)

    pub stage_placed : (places : List ℕ) → ((i : ℕ) → get_or bytes i 0 < 256)
        → ((n : ℕ) (l : Language) → c ≡ Ok n → entries_of target ≡ some l → Indexed places target l) → Placed target places bytes k f checked.subject
    stage_placed places narrow indexed =
        let r = tree_right f.target (mapped f.body k 0) bytes checked.subject tree_is in
        let e = (r.1.2 (bytes_from bytes (λ i q. narrow i))).0 in
        record {
          target_index = record { indexed = indexed n f.target h z.pieces.target; apart = (translation_whole z.file f z.accepted).1.target_apart };
          narrow = narrow;
          lies = record { rest = []; is = e; inside = omega arith; typed = r.1.0; within = r.1.1; known = r.0 };
          whole = e ∙ append-nil (write tree checked.subject);
        }

pub limit_low : (n : ℕ) → n < 1 → is_limit n ≡ false
limit_low n h = rw (lt-leb 1 n h)

pub limit_high : (n : ℕ) → 16 < n → is_limit n ≡ false
limit_high n h = rw (lt-leb n 16 h) (and_false (leb 1 n))
  where
    and_false : (b : Bool) → (b && false) ≡ false
    and_false true = refl
    and_false false = refl

pub limit_good : (n : ℕ) → 1 ≤ n → n ≤ 16 → is_limit n ≡ true
limit_good n h i = rw (le-leb 1 n h, le-leb n 16 i)

-- What is left at a refusal, and behind a search.
module _ (stage : Result Translation) (k : ℕ) (bytes : List ℕ) (limit : ℕ) (o workspace : List ℕ) (out : Outcome) where
  pub leaves_refused : (r : Reason) → stage ≡ refused r → out ≡ Err r → Leaves stage k bytes limit o o workspace workspace out
  leaves_refused r e h = rw e (record { answer = h; output = refl; memory = refl })

  pub leaves_found : (f : Translation) (after left : List ℕ) → stage ≡ value f → Answers (found_in f k bytes limit (length o)) o after out → left ≡ replicate (length workspace) 0
      → Leaves stage k bytes limit o after workspace left out
  leaves_found f after left e h i = rw e (record { answer = h.answer; output = h.left; memory = i })

-- search_from
pub root_past : (table uses source target : List ℕ) (f : Translation) → Tabled table uses source target f → (root : ℕ) → 31 < root → is_in f.source root ≡ false
root_past table uses source target f z root h =
    refuted (is_in f.source root) (λ e. let x = in_below source root f.source z.searchable.checked.pieces.source e in omega arith)

module _ (f : Translation) (root : ℕ) (bytes : List ℕ) (limit : ℕ) (workspace o : List ℕ) (out : Outcome) where
  pub from_unknown : is_in f.source root ≡ false → out ≡ Err UnknownRoot → Leaves (ready_from f root bytes limit) root bytes limit o o workspace workspace out
  unfolding ready_from
  from_unknown e i = leaves_refused (ready_from f root bytes limit) root bytes limit o workspace out UnknownRoot (rw e) i

  pub from_known : (after left : List ℕ) → is_in f.source root ≡ true → Leaves (ready_in f root bytes limit) root bytes limit o after workspace left out
      → Leaves (ready_from f root bytes limit) root bytes limit o after workspace left out
  unfolding ready_from
  from_known after left e h = rw e h

-- search
module _ (s : List ℕ) (f : Translation) (is : translation_of s ≡ value f) where
  pub parts_searchable : plain f.body ≡ true → {x y z : List ℕ} → x ≡ source_in s → y ≡ target_in s → z ≡ body_in s → Searchable x y z f
  parts_searchable e ex ey ez =
      rw (ex, ey, ez) (record { checked = record { pieces = pieces_in s f is; short = body_in_short s f is; file = s; accepted = is }; by_zero = e })

  pub parts_tabled : plain f.body ≡ true → {t u x y : List ℕ} → x ≡ source_in s → y ≡ target_in s
      → Prepared (source_in s) (target_in s) (body_in s) t f × UsesOf u f.body → Tabled t u x y f
  parts_tabled e ex ey p =
      rw (ex, ey) (record {
        body = body_in s;
        searchable = parts_searchable e refl refl refl;
        ready = p.0.ready;
        built = p.0.index;
        uses_of = p.1;
      })

  pub body_there : {x : List ℕ} → x ≡ body_in s → body_of x ≡ some f.body
  body_there ex = ap body_of ex ∙ (pieces_in s f is).body

-- What is answered and left is as the definition says.
abbrev pub AsSearched : List ℕ → ℕ → List ℕ → ℕ → (workspace left o after : List ℕ) → Outcome → Type 0
AsSearched s root bytes limit workspace left o after out =
    (out ≡ (search_tree s root bytes limit workspace o).outcome) × (after ≡ (search_tree s root bytes limit workspace o).output)
    × (left ≡ (search_tree s root bytes limit workspace o).workspace)

module _ (s : List ℕ) (root : ℕ) (bytes : List ℕ) (limit : ℕ) (workspace o : List ℕ) (out : Outcome) where
  pub as_leaves : (after left : List ℕ) → Leaves (ready s root bytes limit) root bytes limit o after workspace left out → AsSearched s root bytes limit workspace left o after out
  unfolding search_tree search_bytes
  as_leaves after left h = (h.answer, h.output, h.memory)

  pub search_refused : (c : Outcome) (r : Reason) → c ≡ check_translation s → c ≡ Err r → out ≡ Err r → AsSearched s root bytes limit workspace workspace o o out
  unfolding check_translation ready
  search_refused c r ec h i = as_leaves o workspace (leaves_refused (ready s root bytes limit) root bytes limit o workspace out r (go (translation_of s) refl (sym ec ∙ h)) i)
    where
      go : (q : Result Translation) → translation_of s ≡ q → Rattle.outcome.specs.Outcome.checked q ≡ Err r → ready s root bytes limit ≡ refused r
      go (value f) e d = refused_not {n = 0} {r = r} (sym d)
      go (refused x) e d = rw e (cc)

  module _ (f : Translation) (is : translation_of s ≡ value f) where
    pub search_numbered : plain f.body ≡ false → out ≡ Err NumberUnfit → AsSearched s root bytes limit workspace workspace o o out
    unfolding ready
    search_numbered e i = as_leaves o workspace (leaves_refused (ready s root bytes limit) root bytes limit o workspace out NumberUnfit (rw (is, e)) i)

    pub search_plain : (after left : List ℕ) → plain f.body ≡ true → Leaves (ready_from f root bytes limit) root bytes limit o after workspace left out
        → AsSearched s root bytes limit workspace left o after out
    unfolding ready ready_from ready_in
    search_plain after left e h = as_leaves after left (rw (is, e) h)
