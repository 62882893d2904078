use Rattle.std.proofs.Common.{◌+◌, List, [], Ok, Err, get_or, rules, length, map, refl, sym, ap, ◌∙◌, subst, arith}
use Rattle.std.proofs.lemmas.List.{length_push}
use Rattle.mm_text.specs.declared.file_data.FileData.{FileData}
use Rattle.mm_text.specs.Reading.{file_of}
use Rattle.job_files.specs.Wanted.{wanted_as}
use Rattle.job_files.proofs.Walked.{IsWalked, names-same, nothing_wanted, room-push, unchanged-after, walked-none, walked-push, walked-stop}
use Rattle.job_files.proofs.Walking.{room_after}
use Rattle.job_files.proofs.reading.read_wanted.Goals as goal

pub loop-at-init : goal.loop-at-init
loop-at-init g c =
    let told = g.F.Files.told c.args.files.now in
    let none = c.new-read.ensures.items in (
      ap length none,
      subst (λ (fs : List FileData). IsWalked told c.args.held.now c.args.entries [] (map file_of fs)) (sym none) (walked-none told c.args.held.now c.args.entries c.requires),
      ap (λ (fs : List FileData). room_after c.args.entries (map file_of fs)) (sym none),
      refl,
      λ name. refl,
    )

pub returns-in-Err-clause-gives : goal.returns-in-Err-clause-gives
returns-in-Err-clause-gives g c =
    let told = g.F.Files.told c.args.files.now in
    walked-stop told c.args.held.now c.args.entries c.args.wanted.now c.loop-at.at nothing_wanted c.loop-at.read.items c.in-Err.fault c.loop-at.room
    (omega arith) c.loop-at.invariant.1 c.loop-at.invariant.2
    (names-same told (g.F.Files.told c.loop-at.files) c.args.held.now _ c.loop-at.read.items c.as_slice.result.now c.loop-at.room (wanted_as (get_or c.args.wanted.now c.loop-at.at nothing_wanted).kind (get_or c.args.wanted.now c.loop-at.at nothing_wanted).name.now) (Err c.in-Err.fault) c.loop-at.invariant.3 c.as_slice.ensures.value c.in-Err.ensures.names)

pub loop-at-preserved : goal.loop-at-preserved
loop-at-preserved g c =
    let told = g.F.Files.told c.args.files.now in
    let pushed = c.in-Ok-push.ensures.items in
    let files = unchanged-after g.F.Files.told g.F.Files.faults c.args.files.now c.loop-at.files c.next_or_fault.new.files c.loop-at.invariant.3 c.loop-at.invariant.4 c.in-Ok.found c.in-Ok.ensures.reads in (
      ap length pushed ∙ length_push c.loop-at.read.items c.in-Ok.found ∙ ap (λ n. n + 1) c.loop-at.invariant.0,
      walked-push told c.args.held.now c.args.entries c.args.wanted.now c.loop-at.at nothing_wanted c.loop-at.read.items _ c.in-Ok.found c.loop-at.room
          (omega arith) pushed c.loop-at.invariant.1 c.loop-at.invariant.2
          (names-same told (g.F.Files.told c.loop-at.files) c.args.held.now _ c.loop-at.read.items c.as_slice.result.now c.loop-at.room (wanted_as (get_or c.args.wanted.now c.loop-at.at nothing_wanted).kind (get_or c.args.wanted.now c.loop-at.at nothing_wanted).name.now) (Ok c.in-Ok.found) c.loop-at.invariant.3 c.as_slice.ensures.value c.in-Ok.ensures.names),
      room-push c.args.entries c.loop-at.read.items _ c.in-Ok.found c.loop-at.room c.len.result pushed c.loop-at.invariant.2 (search rules),
      files.0,
      files.1,
    )
