-- The operation reduce (paper 01, "Operations and their refusals").
use Rattle.std.specs.Prelude.{ℕ, ◌||◌, List, length, replicate, ltb}
use Rattle.outcome.specs.Outcome.{Result, value, refused, refuse_if, ◌>>=◌, written, output_after, Outcome}
use Rattle.outcome.specs.declared.Reason.TheVariants.{BuffersTooShort}
use Rattle.format_translation.specs.TranslationFile.{encode_translation}
use Rattle.format_pack.specs.Terms.{Term, translations}
use Rattle.format_pack.specs.Pack.{Pack, pack_of, term_of}
use Rattle.reduce_signs.specs.Evaluation.{constants_of, evaluate, nothing_bound}

-- What is ready to be worked out: a pack and its term.
pub record Ready : Type 0 where
  pub pack : Pack
  pub term : Term translations

-- Before terms are worked out: 1 to 4, 8, and 9 for a workspace under 65,536 or an output under 4,096 bytes.
unfoldable pub ready : List ℕ → ℕ → ℕ → Result Ready
ready bytes workspace output =
    pack_of bytes >>= λ p.
    term_of p >>= λ t.
    refuse_if (ltb workspace 65536 || ltb output 4096) BuffersTooShort
    (value (record { pack = p; term = t }))

-- The bytes of the one translation that the term comes to.
unfoldable pub work : Ready → Result (List ℕ)
work r = evaluate (constants_of r.pack) nothing_bound r.term >>= λ f. value (encode_translation f)

-- Reduce: the bytes that it writes, or why not.
unfoldable pub reduce_bytes : List ℕ → ℕ → ℕ → Result (List ℕ)
reduce_bytes bytes workspace output = ready bytes workspace output >>= work

-- The workspace at exit: unchanged where it is refused before terms are worked out, otherwise all zero.
abbrev pub workspace_after : List ℕ → Result Ready → List ℕ
workspace_after workspace (refused r) = workspace
workspace_after workspace (value r) = replicate (length workspace) 0

-- All that the operation answers and leaves.
pub record Reduced : Type 0 where
  pub outcome : Outcome
  pub output : List ℕ
  pub workspace : List ℕ

-- Reduce, on the pack, the workspace and the output as they are lent.
unfoldable pub reduce : List ℕ → List ℕ → List ℕ → Reduced
reduce bytes workspace output =
    let result = reduce_bytes bytes (length workspace) (length output) in
    record {
      outcome = written result;
      output = output_after output result;
      workspace = workspace_after workspace (ready bytes (length workspace) (length output));
    }
